use Rattle.std.proofs.Common.{rules}
use Rattle.std.proofs.lemmas.Fn.{filter_same}
use Rattle.stm_explore.specs.Waiting.{is_allowed}
use Rattle.stm_explore.proofs.waiting.only_allowed.Goals as goal

-- the closure keeps the moves that are allowed
pub returns : goal.returns
returns c = filter_same _ (is_allowed c.args.waits.now c.args.ends.now) _ (λ x b f called. search rules) _ _ c.retain.ensures.filtered
