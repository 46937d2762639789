-- A commit in a hall as the lock gave it.
use Rattle.std.proofs.Common.{◌≡◌, List, Result, Ok, Err}
use Rattle.stm_history.specs.declared.key_state.ReadAnswer.{ReadAnswer}
use Rattle.stm_program.specs.declared.level.Level.{Level}
use Rattle.stm_history.specs.declared.change.Change.{Change}
use Rattle.stm_outcome.specs.declared.refusal.Refusal.{Refusal}
use Rattle.stm_journal.specs.JournalState.{JournalState}
use Rattle.stm_hall.specs.Locked.{IsLocked}
use Rattle.stm_closures.specs.declared.store_access.CommitOutcome.{CommitOutcome}
use Rattle.stm_closures.specs.declared.store_access.CommitOutcome.TheVariants.{Committed, Conflict, Exchanged}
use Rattle.stm_closures.specs.Committing.{IsCommittedInHall}
use Rattle.stm_closures.specs.Outcomes.{CommitReturns}
use Rattle.stm_shared_hall.specs.Sharing.{IsCommittedThere}

pub is_there : (before after : JournalState) (level : Level) (reads : List ReadAnswer) (writes : List Change) (result : Result CommitOutcome Refusal)
    → IsLocked before → CommitReturns (IsCommittedInHall before level reads writes after) (after ≡ before) result
    → CommitReturns (IsCommittedThere level reads writes) (after ≡ before) result
is_there before after level reads writes (Ok Committed) locked done = record { before = before; left = after; locked = locked; committed = done }
is_there before after level reads writes (Ok (Conflict again)) locked left = left
is_there before after level reads writes (Ok Exchanged) locked left = left
is_there before after level reads writes (Err cause) locked left = left
