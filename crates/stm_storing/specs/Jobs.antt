-- What a run of jobs over the world of a file does. The jobs are run by several threads over a copy of the store (`stm_workers`); what they changed is kept
-- as a scenario, a transaction for each of their revisions.
--
-- That the calls of a scenario are made before its jobs is `stm_job_texts`'; that a store is kept as what it was asked is our own.
use Rattle.std.specs.Prelude.{◌≡◌, ◌<◌, ◌≤◌, ℕ, List, map, length, Bool, Option, Ok}
use Rattle.std.specs.Io.KnownBytes.{Appends}
use Rattle.stm_history.specs.History.{now}
use Rattle.stm_keys.specs.Events.{events_of}
use Rattle.stm_txn.specs.Standing.{Standing, kept as kept_of}
use Rattle.stm_texts.specs.declared.scenario.Scenario.{Scenario}
use Rattle.stm_texts.specs.Opens.{setup_of}
use Rattle.stm_texts.specs.Reading.{scenario_in}
use Rattle.stm_events.specs.declared.event.WorldEvent.{WorldEvent}
use Rattle.stm_events.specs.declared.event.WorldEvent.TheVariants as event
use Rattle.stm_world.specs.World.{World, world_after}
use Rattle.stm_job.specs.declared.job.Job.{Job}
use Rattle.stm_job.specs.declared.job_end.JobEnd.{JobEnd}
use Rattle.stm_journal.specs.JournalState.{JournalState, made_over}
use Rattle.stm_job_texts.specs.declared.store_call.StoreCall.{StoreCall}
use Rattle.stm_job_texts.specs.declared.store_call.StoreCall.TheVariants.{Txn, Grant, Keep, Revoke, Advance}
use Rattle.stm_job_texts.specs.Accepting.{sorted_of, accepted}
use Rattle.stm_job_texts.specs.Lines.{AreLinesOf}
use Rattle.stm_workers.specs.Gathered.{RanTo}
use Rattle.stm_lasting.specs.Kept.{IsKept, IsReady}
use Rattle.stm_storing.specs.declared.jobs_input.JobsAsked.{JobsAsked}
use Rattle.stm_storing.specs.Storing.{IsOpened}

-- the bytes spell this scenario of jobs
pub record IsAsked (bytes : List ℕ) (asked : JobsAsked) : Type 0 where
  pub scenario : Scenario
  pub spelled : scenario_in bytes ≡ Ok scenario
  pub is_accepted : accepted scenario ≡ Ok (sorted_of asked.sorted)
  pub opens : asked.opening ≡ scenario.opening

-- a call of the store, as an event of a world
abbrev pub event_of : StoreCall → WorldEvent
event_of (Txn txn) = event.Txn txn
event_of (Grant id ttl) = event.Grant id ttl
event_of (Keep id) = event.Keep id
event_of (Revoke id) = event.Revoke id
event_of (Advance moment) = event.Advance moment

-- Two stores are alike that were the same at a revision: the same has happened in both since, and they are at the same moment.
pub record AreAlikeSince (since : ℕ) (s t : Standing) : Type 0 where
  pub reached : now s.history ≡ now t.history
  pub events : (r : ℕ) → since < r → r ≤ now s.history → events_of s.history r ≡ events_of t.history r
  pub moment : s.moment ≡ t.moment

-- Jobs were run over the store of a world that has taken these calls; these lines show what came of it; and the store that is left is alike, and has the
-- leases that live after the calls.
pub record HasRunOver (shown : Bool) (calls : List WorldEvent) (jobs : List Job) (world : World) (ends : List JobEnd) (lines : List ℕ) (left : Standing) : Type 0 where
  pub lost : List (List (List ℕ))
  pub committed : ℕ
  pub after : JournalState
  pub ran : RanTo (made_over (kept_of (world_after calls world).standing)) jobs ends lost committed after
  pub shows : AreLinesOf shown ends lost (length jobs) committed after.standing.history lines
  pub alike : AreAlikeSince (now (kept_of (world_after calls world).standing).history) after.standing left
  pub leases : (world_after calls world).standing.live ≡ left.live

-- A scenario of jobs was run over the world that a file leads to, and what the jobs have changed was kept.
pub record HasRunAndKept (shown : Bool) (mended file : List ℕ) (asked : JobsAsked) (ends : List JobEnd) (lines : List ℕ) : Type 0 where
  pub scenario : Scenario
  pub opens : setup_of scenario.opening ≡ setup_of asked.opening
  pub before : World
  pub ready : IsReady mended before scenario
  pub kept : IsKept file (world_after scenario.events before)
  pub ran : HasRunOver shown (map event_of asked.sorted.calls) asked.sorted.jobs before ends lines (kept_of (world_after scenario.events before).standing)

-- The same over what was found, and the lines were printed.
pub record HasRunJobs (shown : Bool) (found file : List ℕ) (asked : JobsAsked) (ends : List JobEnd) (before_it after_it : Option (List ℕ)) : Type 0 where
  pub mended : List ℕ
  pub world : World
  pub opened : IsOpened found mended world
  pub lines : List ℕ
  pub run : HasRunAndKept shown mended file asked ends lines
  pub printed : Appends before_it after_it lines
