-- What makes an entry legal at its point.
use Rattle.std.specs.Prelude.{◌≡◌, ℕ, ◌<◌, true, false, MatchBool, List, [], ◌∷◌, None, Ok}
use Rattle.stm_history.specs.declared.key_state.ReadAnswer.{ReadAnswer}
use Rattle.stm_history.specs.History.{History, now}
use Rattle.stm_leases.specs.Live.{is_live_in, grant_refusal}
use Rattle.stm_program.specs.declared.level.Level.{Level}
use Rattle.stm_program.specs.Syntax.{ProgramTree}
use Rattle.stm_steps.specs.declared.value.Value.{Value}
use Rattle.stm_steps.specs.declared.trace_item.TraceItem.{TraceItem}
use Rattle.stm_steps.specs.declared.run.End.TheVariants.{Done as DoneEnd}
use Rattle.stm_steps.specs.declared.run.Run.{Run}
use Rattle.stm_steps.specs.declared.run.Answered.TheVariants.{Ended}
use Rattle.stm_meaning.specs.Meaning.{run_over}
use Rattle.stm_outcome.specs.declared.txn.Txn.{Txn}
use Rattle.stm_outcome.specs.Outcome.{Done, outcome, is_used_up}
use Rattle.stm_txn.specs.LeaseKeys.{deletions_of}
use Rattle.stm_program.specs.Levels.{is_comparing}
use Rattle.stm_compile.specs.Answers.{AreTrue}
use Rattle.stm_entries.specs.declared.entry.Entry.{Entry}
use Rattle.stm_entries.specs.declared.entry.Entry.TheVariants.{Program, Foreign, Grant, Renew, Revoke, Expire}
use Rattle.stm_entries.specs.Replayed.{Replayed, replay_terms}
use Rattle.stm_entries.specs.Alone.{seen_at, applied_run}
use Rattle.stm_entries.specs.Replay.{replay_entry}

-- at the comparing levels no answers are kept; at ReadCommitted each is true at its own revision
abbrev pub AnswersAreTrue : Level → List ReadAnswer → History → Type 0
AnswersAreTrue level answers h = MatchBool (is_comparing level) (answers ≡ []) (AreTrue h answers)

-- A commit: the program is done with this output and trace on what it saw, and its writes are applied and lead to this
-- revision.
pub record IsCommit (program : ProgramTree) (level : Level) (answers : List ReadAnswer) (output : List Value) (trace : List TraceItem)
    (revision : ℕ) (before : Replayed) : Type 0 where
  pub run : Run
  pub is_run : run_over (seen_at level answers before.history) program.statements ≡ Ended run
  pub is_done : run.end ≡ DoneEnd
  pub emits : run.output ≡ output
  pub sees : run.trace ≡ trace
  pub reads_truth : AnswersAreTrue level answers before.history
  pub done : Done
  pub applies : applied_run before run ≡ Ok done
  pub reached : now done.history ≡ revision

-- a foreign transaction that the store takes, and that changes something
pub record IsForeign (txn : Txn) (before : Replayed) : Type 0 where
  pub done : Done
  pub taken : outcome (replay_terms before) txn ≡ Ok done
  pub changed : now before.history < now done.history

-- the end of a live lease: its keys, if it has some, are deleted below the highest revision
pub record IsEnd (id : ℕ) (before : Replayed) : Type 0 where
  pub is_live : is_live_in before.live id ≡ true
  pub has_room : is_used_up before.history (deletions_of before.history id) ≡ false

-- an entry at its point
abbrev pub IsLegal : Entry → Replayed → Type 0
IsLegal (Program program level answers output trace revision) r = IsCommit program level answers output trace revision r
IsLegal (Foreign txn) r = IsForeign txn r
IsLegal (Grant id ttl moment) r = grant_refusal r.live id ttl ≡ None
IsLegal (Renew id moment) r = is_live_in r.live id ≡ true
IsLegal (Revoke id) r = IsEnd id r
IsLegal (Expire id) r = IsEnd id r

-- each entry is legal at its point
abbrev pub AreLegal : List Entry → Replayed → Type 0
AreLegal [] r = Unit {0}
AreLegal (e ∷ es) r = IsLegal e r × AreLegal es (replay_entry e r)
