-- What the next attempt may rely on of the answers that it is begun with.
use Rattle.std.specs.Prelude.{List, All}
use Rattle.stm_history.specs.declared.key_state.ReadAnswer.{ReadAnswer}
use Rattle.stm_outcome.specs.Numbers.{ReadFits}
use Rattle.stm_attempt.specs.Known.{HaveDistinctKeys}
use Rattle.stm_attempt.specs.Fetches.{ShowOneRevision}

-- answers that may be prefetched for an attempt
pub record MayBePrefetched (answers : List ReadAnswer) : Type 0 where
  pub distinct : HaveDistinctKeys answers
  pub in_range : All ReadFits answers
  pub one_revision : ShowOneRevision answers
