-- What stays of a hall as it goes on, and its laws, each carried by a function of `src/laws.rt`.
use Rattle.std.specs.Prelude.{◌≡◌, ℕ, List, ◌++◌, None}
use Rattle.stm_history.specs.declared.key_state.ReadAnswer.{ReadAnswer}
use Rattle.stm_history.specs.History.{History}
use Rattle.stm_leases.specs.Live.{is_live_in}
use Rattle.stm_program.specs.declared.level.Level.{Level}
use Rattle.stm_history.specs.declared.change.Change.{Change}
use Rattle.stm_txn.specs.Standing.{Standing}
use Rattle.stm_compile.specs.Answers.{AreTrue}
use Rattle.stm_compile.specs.Committed.{conflict_now}
use Rattle.stm_attempt.specs.ReadyRun.{ReadyRun}
use Rattle.stm_entries.specs.declared.entry.Entry.{Entry}
use Rattle.stm_entries.specs.Replay.{replay_entry}
use Rattle.stm_entries.specs.Replayed.{without_moment}
use Rattle.stm_journal.specs.JournalState.{JournalState, made_over}
use Rattle.stm_journal.specs.declared.verdict.Verdict.{Verdict}
use Rattle.stm_journal.specs.declared.verdict.Verdict.TheVariants.{Committed, Failed}
use Rattle.stm_hall.specs.Locked.{IsCommitThere, IsLocked, opening_of}
use Rattle.stm_entries.specs.Entered.{answers_kept}
use Rattle.stm_journal.specs.Verdicts.{entry_of, first_unvouched}

-- a hall goes on: its entries are those before with more after them, and its opening state stays
pub record GoesOn (before after : JournalState) : Type 0 where
  pub more : List Entry
  pub entries : after.entries ≡ before.entries ++ more
  pub start : after.start ≡ before.start
  pub opening : opening_of after ≡ opening_of before

-- A commit that was made: its program, alone on the store as it was, is done with this output and trace, and its writes lead to the store as it is and to this
-- revision. At ReadCommitted it is alone on the answers that its caller gave.
pub record IsMadeAlone (ready : ReadyRun) (revision : ℕ) (before after : JournalState) : Type 0 where
  pub there : IsCommitThere ready.program ready.level (answers_kept ready.level ready.answers) ready.output ready.trace revision
      (without_moment before.standing)
  pub leads : replay_entry (entry_of ready revision) (without_moment before.standing) ≡ without_moment after.standing

-- a commit that was made changes the store as its program alone does, and one that failed changes nothing
abbrev pub ChangesAsAlone : ReadyRun → Verdict → JournalState → JournalState → Type 0
ChangesAsAlone ready (Committed index revision) before after = IsMadeAlone ready revision before after
ChangesAsAlone ready (Failed key seen modified answers) before after = after ≡ before

-- A hall that is made over a store is locked, and its opening state is that store.
pub record OpensAsItsStore (s : Standing) : Type 0 where
  pub locked : IsLocked (made_over s)
  pub opening : opening_of (made_over s) ≡ record { history = s.history; is_live = λ id. is_live_in s.live id }

abbrev pub HallsOpenAsTheirStore : Type 0
HallsOpenAsTheirStore = (s : Standing) → OpensAsItsStore s

-- Where no compare of a commit fails and its answers are true, none of them is unvouched: at a level that compares, no value is
-- another than the store's. The answers that the runners of a world have read are true, so none of their commits would be unvouched.
abbrev pub TrueReadsAreVouched : Type 0
TrueReadsAreVouched =
    (h : History) (level : Level) (reads : List ReadAnswer) (writes : List Change) → AreTrue h reads → conflict_now h level reads writes ≡ None
    → first_unvouched h level reads ≡ None
