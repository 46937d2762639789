use Rattle.std.proofs.Common.{◌+◌, [], ◌∷◌, length, ap, ◌∙◌, length-append, arith}
use Rattle.stm_visited.proofs.SearchLemmas.{founds_more}
use Rattle.stm_visited.proofs.breaks.founds_among.Goals as goal

pub loop-rule-preserved : goal.loop-rule-preserved
loop-rule-preserved g c = (
  ap length c.in_ok-push.ensures.items ∙ length-append c.loop-rule.founds.items (c.in_ok-found.found ∷ []) ∙ ap (λ k. k + 1) c.loop-rule.invariant.0,
  rw c.in_ok-push.ensures.items (founds_more (g.S.System.steps c.args.system.now) c.args.layer.now c.args.before.now c.loop-rule.founds.items c.loop-rule.rule
      c.index-before-rule.result c.in_ok-found.found c.loop-rule.invariant.0 (omega arith) c.index-before-rule.is c.in_ok-found.ensures c.loop-rule.invariant.1),
)
