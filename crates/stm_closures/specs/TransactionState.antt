use Rattle.std.specs.Prelude.{List}
use Rattle.stm_history.specs.declared.key_state.ReadAnswer.{ReadAnswer}
use Rattle.stm_program.specs.declared.level.Level.{Level}
use Rattle.stm_history.specs.declared.change.Change.{Change}

-- a transaction under way: its level, what it has read, in the order of first reads, what a failed commit read again for it, and the last write of
-- each key
pub record TransactionState : Type 0 where
  pub level : Level
  pub reads : List ReadAnswer
  pub again : List ReadAnswer
  pub writes : List Change
