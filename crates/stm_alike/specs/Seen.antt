-- What the steps from a world can see.
--
-- No step reads the entries. Nothing but the calls about watchers reads the watchers, and these calls change nothing else. Of the revisions that the
-- answers of an attempt show and carry, each level uses the fewest that its promise wants, or none.
use Rattle.std.specs.Prelude.{◌≡◌, ℕ, List, [], map, option_map, Result, Ok, Err}
use Rattle.stm_program.specs.declared.level.Level.{Level}
use Rattle.stm_txn.specs.Standing.{with_watchers}
use Rattle.stm_attempt.specs.Known.{Known, known_of}
use Rattle.stm_events.specs.declared.event.WorldEvent.{WorldEvent}
use Rattle.stm_events.specs.declared.event.WorldEvent.TheVariants.{WatchKey, WatchRange, Poll, Cancel}
use Rattle.stm_events.specs.declared.reply.Reply.{Reply}
use Rattle.stm_events.specs.declared.reply.Reply.TheVariants.{Committed}
use Rattle.stm_events.specs.declared.reply.CommittedRead.{CommittedRead}
use Rattle.stm_events.specs.declared.refusal.Denied.{Denied}
use Rattle.stm_world.specs.World.{World, Runner, Slot, Over, Live, runner_at, step}
use Rattle.stm_alike.specs.Levelled.{reads_seen}

abbrev pub seen_known : Level → Known → Known
seen_known level known = known_of (reads_seen level known.prefetched known.reads) known.prefetched

abbrev pub seen_runner : Runner → Runner
seen_runner r = record { task = r.task; failures = r.failures; known = seen_known r.task.level r.known }

abbrev pub seen_slot : Slot → Slot
seen_slot Over = Over
seen_slot (Live r) = Live (seen_runner r)

-- what the steps from a world can see
abbrev pub seen_world : World → World
seen_world w = record { standing = with_watchers w.standing []; runners = map seen_slot w.runners; entries = [] }

-- two worlds are alike: the steps from them can see the same
abbrev pub AreAlike : World → World → Type 0
AreAlike v w = seen_world v ≡ seen_world w

-- an event that is no call about watchers
abbrev pub IsNoWatch : WorldEvent → Type 0
IsNoWatch (WatchKey key from) = ⊥
IsNoWatch (WatchRange first end from) = ⊥
IsNoWatch (Poll watcher most) = ⊥
IsNoWatch (Cancel watcher) = ⊥
IsNoWatch other = Unit {0}

-- a reported read without the revision that it shows
abbrev pub undated_read : CommittedRead → CommittedRead
undated_read a = record { key = a.key; value = a.value; mod_rev = a.mod_rev; of_rev = 0 }

-- a reply up to the revisions that the reads of a commit at ReadCommitted show
abbrev pub undated_reply : Reply → Reply
undated_reply (Committed id revision attempts output trace reads) = Committed id revision attempts output trace (map undated_read reads)
undated_reply other = other

abbrev pub seen_reply : Result Reply Denied → Result Reply Denied
seen_reply (Ok reply) = Ok (undated_reply reply)
seen_reply (Err denied) = Err denied

-- ---- laws

pub record AlikeWorldsAreSame : Type 0 where
  -- a step commutes with what can be seen, and its reply is that to what can be seen
  pub next : (event : WorldEvent) (w : World) → seen_world (step event (seen_world w)).next ≡ seen_world (step event w).next
  pub told : (event : WorldEvent) (w : World) → IsNoWatch event → seen_reply (step event (seen_world w)).reply ≡ seen_reply (step event w).reply
  -- so alike worlds are alike after the same event, and reply the same to it
  pub after : (event : WorldEvent) (v w : World) → AreAlike v w → AreAlike (step event v).next (step event w).next
  pub replies : (event : WorldEvent) (v w : World) → IsNoWatch event → AreAlike v w → seen_reply (step event v).reply ≡ seen_reply (step event w).reply
  -- the same runners stand in both
  pub seen_at : (id : ℕ) (slots : List Slot) → runner_at id (map seen_slot slots) ≡ option_map seen_runner (runner_at id slots)
