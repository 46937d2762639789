-- What an event makes of the store: what was true stays so, what watchers were notified of goes on, the opening stays, and nothing below the floor
-- is pending for a watcher that is not lost.
use Rattle.std.proofs.Common.{◌≡◌, ◌≤◌, ℕ, List, [], ◌∷◌, Option, Some, None, Ok, Err, refl, sym, ◌∙◌, subst, arith}
use Rattle.std.proofs.Math.Nat.{min-le_right}
use Rattle.std.specs.Prelude.{Result}
use Rattle.std.proofs.lemmas.Bool.Decides.{nat_tests}
use Rattle.stm_history.specs.Opening.{opening_at}
use Rattle.stm_program.specs.Writes.{latest_writes}
use Rattle.stm_steps.specs.declared.run.End.{End}
use Rattle.stm_steps.specs.declared.run.End.TheVariants.{Done as DoneEnd, Aborted as AbortedEnd, Faulted as FaultedEnd}
use Rattle.stm_steps.specs.declared.run.Run.{Run}
use Rattle.stm_steps.specs.declared.run.Answered.{Answered}
use Rattle.stm_steps.specs.declared.run.Answered.TheVariants.{Ended as EndedRun, Wants}
use Rattle.stm_meaning.specs.Meaning.{run_over}
use Rattle.stm_outcome.specs.declared.refusal.Refusal.{Refusal as StoreRefusal}
use Rattle.stm_outcome.specs.Outcome.{Done}
use Rattle.stm_outcome.specs.Terms.{most_operations}
use Rattle.stm_txn.specs.Standing.{Standing, HasKept, with_history, Setup}
use Rattle.stm_entries.specs.Replayed.{without_moment, replay_terms}
use Rattle.stm_entries.specs.Alone.{seen_at, applied_run, history_left, left_by, left_by_run}
use Rattle.stm_events.specs.declared.event.WorldEvent.{WorldEvent}
use Rattle.stm_events.specs.declared.reply.Reply.{Reply}
use Rattle.stm_events.specs.declared.reply.CommittedRead.{CommittedRead}
use Rattle.stm_events.specs.declared.reply.Reply.TheVariants.{Committed}
use Rattle.stm_events.specs.declared.refusal.Denied.{Denied}
use Rattle.stm_events.specs.Replies.{reads_in}
use Rattle.stm_events.specs.Called.{Asked, Starts, Steps, Calls, asked}
use Rattle.stm_world.specs.Task.{Task}
use Rattle.stm_world.specs.Log.{Line, begun, with_commit, store_after_step, store_after_asked, store_after, store}
use Rattle.stm_world.proofs.Truth.{keeps_same}
use Rattle.stm_world.proofs.CommitEntries.{grown_by, kept_by_writes}
use Rattle.stm_world.proofs.Entered.{GoesOn, floor_stays, nothing_goes_on}
use Rattle.stm_world.proofs.Calls.{call_goes_on}

-- the store with the history that it has
unchanged : (s : Standing) → GoesOn s (with_history s s.history)
unchanged s = grind (arith, nat_tests, keeps_same, floor_stays)

-- ---- a commit

left_goes_on : (s : Standing) (run : Run) (o : Result Done StoreRefusal) → applied_run (without_moment s) run ≡ o →
    GoesOn s (with_history s (history_left s.history o))
left_goes_on s run (Ok done) is = record {
  keeps = grown_by (replay_terms (without_moment s)) (latest_writes run.writes) done is;
  kept = λ k. kept_by_writes s (replay_terms (without_moment s)) (latest_writes run.writes) done refl is k;
  floor = floor_stays s;
  limit = refl;
}
left_goes_on s run (Err cause) is = unchanged s

end_goes_on : (s : Standing) (run : Run) (end : End) → GoesOn s (with_history s (left_by run end (without_moment s)).history)
end_goes_on s run DoneEnd = left_goes_on s run (applied_run (without_moment s) run) refl
end_goes_on s run (AbortedEnd text) = unchanged s
end_goes_on s run (FaultedEnd fault) = unchanged s

run_goes_on : (s : Standing) (answered : Answered) → GoesOn s (with_history s (left_by_run answered (without_moment s)).history)
run_goes_on s (EndedRun run) = end_goes_on s run run.end
run_goes_on s (Wants key trace) = unchanged s

commit_goes_on : (s : Standing) (answers : List CommittedRead) (o : Option Task) → GoesOn s (with_commit s answers o)
commit_goes_on s answers None = nothing_goes_on s
commit_goes_on s answers (Some task) = run_goes_on s (run_over (seen_at task.level (reads_in s.history answers) s.history) task.program.statements)

step_goes_on : (task_of : ℕ → Option Task) (s : Standing) (reply : Result Reply Denied) → GoesOn s (store_after_step task_of s reply)
step_goes_on task_of s (Ok (Committed runner revision attempts output trace answers)) = commit_goes_on s answers (task_of runner)
step_goes_on task_of s (Ok other) = nothing_goes_on s
step_goes_on task_of s (Err refusal) = nothing_goes_on s

-- ---- every event

asked_goes_on : (task_of : ℕ → Option Task) (a : Asked) (reply : Result Reply Denied) (s : Standing) → GoesOn s (store_after_asked task_of a reply s)
asked_goes_on task_of (Starts program level limit) reply s = nothing_goes_on s
asked_goes_on task_of (Steps runner) reply s = step_goes_on task_of s reply
asked_goes_on task_of (Calls c) reply s = call_goes_on s c

pub event_goes_on : (task_of : ℕ → Option Task) (event : WorldEvent) (reply : Result Reply Denied) (s : Standing) → GoesOn s (store_after task_of event reply s)
event_goes_on task_of event reply s = asked_goes_on task_of (asked event) reply s

-- ---- a whole log

line_goes_on : (start : Setup) (line : Line) (older : List Line) → GoesOn (store start older) (store start (line ∷ older))
line_goes_on start line older = event_goes_on (λ id. begun id older) line.event line.reply (store start older)

-- the history of a log opens as its store did, without a key
pub store_opens : (start : Setup) (log : List Line) → (store start log).history.opening ≡ opening_at start.revision
store_opens start [] = refl
store_opens start (line ∷ older) = (line_goes_on start line older).keeps.opening ∙ store_opens start older

-- its store takes no more operations than any store
pub store_limit : (start : Setup) (log : List Line) → (store start log).limit ≤ most_operations
store_limit start [] = min-le_right start.limit most_operations
store_limit start (line ∷ older) = subst (λ n. n ≤ most_operations) (sym (line_goes_on start line older).limit) (store_limit start older)

-- and has nothing below its floor pending for a watcher that is not lost
pub store_kept : (start : Setup) (log : List Line) → HasKept (store start log)
store_kept start [] = record { reached = omega arith; watchers = tt }
store_kept start (line ∷ older) = (line_goes_on start line older).kept (store_kept start older)
