use Rattle.std.proofs.Common.{rules}
use Rattle.std.proofs.lemmas.Fn.{filter_same}
use Rattle.stm_explore.specs.Turns.{is_in_turn}
use Rattle.stm_explore.proofs.turns.only_in_turn.Goals as goal

-- the closure keeps the moves that are in turn
pub returns : goal.returns
returns c = filter_same _ (is_in_turn c.args.wanted.now c.args.last c.args.ends.now) _ (λ x b f called. search rules) _ _ c.retain.ensures.filtered
