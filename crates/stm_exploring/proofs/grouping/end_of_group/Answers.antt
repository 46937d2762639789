use Rattle.std.proofs.Common.{◌≡◌, ℕ, get_or, sym, ap, ◌∙◌, subst, below_more, arith}
use Rattle.std.proofs.lemmas.List.{get_or_default}
use Rattle.stm_exploring.specs.declared.rules.Rule.{Rule}
use Rattle.stm_exploring.proofs.grouping.end_of_group.Goals as goal

pub loop-index-init : goal.loop-index-init
loop-index-init c = λ k below d behind.
    let same : k ≡ c.args.from = omega (arith, below, behind) in
    subst (λ (n : ℕ). (get_or c.args.rules.now n d).when ≡ c.args.when) (sym same) (c.requires.first d)

pub loop-index-preserved : goal.loop-index-preserved
loop-index-preserved c =
    let rule = c.index-rules-index.result in
    below_more _ _ c.loop-index.invariant
    (λ d behind. ap (λ (r : Rule). r.when) (get_or_default c.args.rules.now c.loop-index.index d rule (omega (arith, c.loop-index-test.true)))
    ∙ c.is_same.ensures c.if-not-is_same.false)

pub returns-clause-asked : goal.returns-clause-asked
returns-clause-asked c = λ k below d behind. c.loop-index.invariant k (omega (arith, below, c.loop-index-test.false)) d behind
