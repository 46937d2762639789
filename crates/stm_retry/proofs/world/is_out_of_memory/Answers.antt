use Rattle.std.proofs.Common.{sym, ◌∙◌, ap}
use Rattle.stm_retry.specs.Returns.{ran_out}
use Rattle.stm_retry.proofs.WorldLemmas.{is_named}
use Rattle.stm_retry.proofs.world.is_out_of_memory.Goals as goal

pub returns-in-Err : goal.returns-in-Err
returns-in-Err c = is_named _ _ c.is_out_of_memory.ensures ∙ ap ran_out (sym c.in-Err.is)
