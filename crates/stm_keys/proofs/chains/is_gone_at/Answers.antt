use Rattle.std.proofs.Common.{◌∙◌, ap, sym}
use Rattle.stm_keys.specs.Chains.{versions_in}
use Rattle.stm_keys.proofs.Order.{found_under}
use Rattle.stm_keys.proofs.chains.is_gone_at.Goals as goal

pub returns : goal.returns
returns c = λ is key named.
    ap versions_in (found_under c.args.chains.now c.args.index _ _ c.len-count.ensures.unique (sym c.in-Some.ensures.entry) key named)
    ∙ c.is_gone.ensures.0 is
