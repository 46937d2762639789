use Rattle.std.proofs.Common.{◌∙◌, sym, ap}
use Rattle.stm_txn.specs.Standing.{Standing}
use Rattle.stm_explore.proofs.AskedLemmas.{laid_end, laid_wants}
use Rattle.stm_explore.proofs.asking.last_end.Goals as goal

-- a state knows every key, whatever is laid over it
pub unreachable-requires : goal.unreachable-requires
unreachable-requires c =
    laid_wants c.args.rule.now c.as_slice.result.now c.keys-keys.result.now.history (sym c.in_ok-run.ensures ∙ c.in-Wants.is)

pub returns : goal.returns
returns c =
    laid_end c.args.rule.now c.args.world.now c.keys-keys.result.now.history c.as_slice.result.now c.args.ends.now c.in-Ended.run'
    (c.keys-keys.ensures.history ∙ ap (λ (s : Standing). s.history) c.store.ensures.standing) c.store.ensures.reached
    (c.as_slice.ensures.value ∙ c.in_ok-laid.ensures) (sym c.in_ok-run.ensures ∙ c.in-Ended.is)
