-- What a step of a runner reports, and what it leaves of the journal and the runner.
use Rattle.std.specs.Prelude.{◌≡◌, ℕ, ◌+◌, nat_lt, Bool, false, if◌then◌else◌, List, map, Result, Ok, Err}
use Rattle.stm_history.specs.declared.key_state.ReadAnswer.{ReadAnswer}
use Rattle.stm_history.specs.History.{mod_of}
use Rattle.std.specs.declared.alloc.AllocError.{AllocError}
use Rattle.stm_steps.specs.declared.run.End.{End}
use Rattle.stm_steps.specs.declared.run.End.TheVariants.{Done, Aborted as AbortedEnd, Faulted as FaultedEnd}
use Rattle.stm_steps.specs.declared.run.Run.{Run}
use Rattle.stm_steps.specs.declared.run.Answered.TheVariants.{Ended as EndedRun}
use Rattle.stm_outcome.specs.declared.refusal.Refusal.{Refusal as StoreRefusal}
use Rattle.stm_attempt.specs.Settled.{run_on}
use Rattle.stm_attempt.specs.Entering.{is_due}
use Rattle.stm_attempt.specs.ReadyRun.{ReadyRun, ready_run}
use Rattle.stm_journal.specs.JournalState.{JournalState}
use Rattle.stm_events.specs.declared.reply.Reply.{Reply}
use Rattle.stm_events.specs.declared.reply.KeyRead.{KeyRead}
use Rattle.stm_events.specs.declared.reply.Reply.TheVariants.{Prefetched, Fetched, Conflict, GaveUp, Aborted, Faulted, Ended}
use Rattle.stm_events.specs.declared.refusal.Denied.{Denied}
use Rattle.stm_events.specs.Replies.{event_refusal}
use Rattle.stm_world.specs.World.{World, Stepped, Runner, Slot, Over, Live, with_slot}
use Rattle.stm_retry.specs.declared.step_outcome.StepOutcome.{StepOutcome}
use Rattle.stm_retry.specs.declared.step_outcome.StepOutcome.TheVariants.{GoesOn, Ends}
use Rattle.stm_retry.specs.RunnerView.{with_answer, with_answers}
use Rattle.stm_retry.specs.WorldOf.{world_of}

-- what a step of a runner works on
pub record Workplace : Type 0 where
  pub journal : JournalState
  pub runner : Runner

abbrev pub workplace : JournalState → Runner → Workplace
workplace journal runner = record { journal = journal; runner = runner }

-- the world around it, by the places of the runners
abbrev pub world_around : Workplace → List Slot → World
world_around p slots = world_of p.journal slots

abbrev pub reply_in : StepOutcome → Reply
reply_in (GoesOn reply) = reply
reply_in (Ends reply) = reply

-- the reply to the step, where memory did not run out
abbrev pub reply_reported : Result StepOutcome AllocError → Result (Result Reply Denied) AllocError
reply_reported (Ok reported) = Ok (Ok (reply_in reported))
reply_reported (Err e) = Err e

-- where the runner stands then
abbrev pub slot_after : StepOutcome → Runner → Slot
slot_after (GoesOn reply) r = Live r
slot_after (Ends reply) r = Over

-- the same where memory may have run out: then the runner stands where it stood
abbrev pub slot_left : Result StepOutcome AllocError → Runner → Slot
slot_left (Ok reported) r = slot_after reported r
slot_left (Err e) r = Live r

-- The step's reply is reported, and its next world is left, whatever stands at the places of the runners; or memory ran out, and
-- all is as it was.
abbrev pub Leaves : ℕ → Result StepOutcome AllocError → Workplace → Workplace → (World → Stepped) → Type 0
Leaves id (Ok reported) before after step =
    (slots : List Slot) → step (world_around before slots)
    ≡ record { reply = Ok (reply_in reported); next = world_around after (with_slot id (slot_after reported after.runner) slots) }
Leaves id (Err e) before after step = after ≡ before

-- what a fetch of a key reports, by what it comes to: one that the store refuses ends the run
abbrev pub reported_of_fetch : ℕ → List ℕ → Result ReadAnswer StoreRefusal → StepOutcome
reported_of_fetch id key (Ok a) = GoesOn (Fetched id key (mod_of a.kv) a.of_rev a.revision)
reported_of_fetch id key (Err cause) = Ends (Ended id (event_refusal cause))

-- the runner after it
abbrev pub after_reported_fetch : Result ReadAnswer StoreRefusal → Runner → Runner
after_reported_fetch (Ok a) r = with_answer a r
after_reported_fetch (Err cause) r = r

-- what is reported of an answer to a key of a list
abbrev pub key_read : ReadAnswer → KeyRead
key_read a = record { key = a.key; mod_rev = mod_of a.kv }

-- what a fetch of a list reports where this is the store's revision: one that the store refuses ends the run
abbrev pub reported_of_list : ℕ → ℕ → Result (List ReadAnswer) StoreRefusal → StepOutcome
reported_of_list id revision (Ok answers) = GoesOn (Prefetched id revision (map key_read answers))
reported_of_list id revision (Err cause) = Ends (Ended id (event_refusal cause))

-- the runner after it
abbrev pub after_reported_list : Result (List ReadAnswer) StoreRefusal → Runner → Runner
after_reported_list (Ok answers) r = with_answers answers r
after_reported_list (Err cause) r = r

-- the reply of a run that came to such an end with nothing to commit
abbrev pub ReturnsEnd : ℕ → End → Reply → Type 0
ReturnsEnd id Done reply = ⊥
ReturnsEnd id (AbortedEnd text) reply = reply ≡ Aborted id text
ReturnsEnd id (FaultedEnd fault) reply = reply ≡ Faulted id fault

-- the runner's program came to its end on what it has read, and this is its run, ready to commit
pub record IsReady (r : Runner) (run : Run) (ready : ReadyRun) : Type 0 where
  pub has_list : is_due r.task.program.prefetch r.known.reads ≡ false
  pub is_run : run_on r.task.program r.known.reads ≡ EndedRun run
  pub is_done : run.end ≡ Done
  pub is : ready ≡ ready_run r.task.program r.task.level r.known.reads run

-- a run may send one more commit where the present one fails
abbrev pub may_go_on : Runner → Bool
may_go_on r = nat_lt (r.failures + 1) r.task.limit

-- what a commit that failed reports
abbrev pub reported_of_failure : ℕ → Runner → List ℕ → ℕ → ℕ → StepOutcome
reported_of_failure id r key seen modified =
    if may_go_on r then GoesOn (Conflict id key seen modified) else Ends (GaveUp id (r.failures + 1) key seen modified)
