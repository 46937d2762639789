-- A program run alone at a moment of a store, and what that makes of the history.
--
-- The Go package `concurrency`, "STM": a transaction's reads and writes are as one step. A program that committed did what
-- it does alone: it runs on the state of that moment, and the last write of each key is applied, as one revision. At
-- ReadCommitted it runs on the answers that it read, and its writes alone are applied at that moment.
use Rattle.std.specs.Prelude.{if◌then◌else◌, List, Result, Ok, Err}
use Rattle.stm_history.specs.declared.key_state.ReadAnswer.{ReadAnswer}
use Rattle.stm_history.specs.History.{History}
use Rattle.stm_program.specs.declared.level.Level.{Level}
use Rattle.stm_program.specs.Writes.{latest_writes}
use Rattle.stm_steps.specs.declared.run.End.{End}
use Rattle.stm_steps.specs.declared.run.End.TheVariants.{Done as DoneEnd, Aborted, Faulted}
use Rattle.stm_steps.specs.declared.run.Run.{Run}
use Rattle.stm_steps.specs.declared.run.Answered.{Answered}
use Rattle.stm_steps.specs.declared.run.Answered.TheVariants.{Ended, Wants}
use Rattle.stm_meaning.specs.Answer.{Lookup}
use Rattle.stm_outcome.specs.declared.refusal.Refusal.{Refusal}
use Rattle.stm_outcome.specs.Outcome.{Done}
use Rattle.stm_outcome.specs.Commits.{applied}
use Rattle.stm_program.specs.Levels.{is_comparing}
use Rattle.stm_compile.specs.Answers.{look_up, state_now}
use Rattle.stm_entries.specs.Replayed.{Replayed, with_history, replay_terms}

-- what a run's writes come to in a store, with nothing compared: LeaseNotFound where one puts a key on a lease that is not
-- live, else RevisionsUsedUp where something changes at the highest revision, else the last write of each key as one revision,
-- without the deletes of absent keys
abbrev pub applied_run : Replayed → Run → Result Done Refusal
applied_run r run = applied (replay_terms r) (latest_writes run.writes)

-- what a committed program saw: at ReadCommitted its answers, at the comparing levels the state of its commit
abbrev pub seen_at : Level → List ReadAnswer → History → Lookup
seen_at level answers h = if is_comparing level then state_now h else look_up answers

-- the history that a call leaves: a refused one leaves it as it was
abbrev pub history_left : History → Result Done Refusal → History
history_left h (Ok done) = done.history
history_left h (Err refusal) = h

-- a run that is done applies its writes, and no other run changes anything
abbrev pub left_by : Run → End → Replayed → Replayed
left_by run DoneEnd r = with_history r (history_left r.history (applied_run r run))
left_by run (Aborted text) r = r
left_by run (Faulted fault) r = r

abbrev pub left_by_run : Answered → Replayed → Replayed
left_by_run (Ended run) r = left_by run run.end r
left_by_run (Wants key trace) r = r
