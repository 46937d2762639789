use Rattle.std.proofs.Common.{◌+◌, All, take, sym, subst, arith}
use Rattle.std.proofs.lemmas.List.Elements.{All-push}
use Rattle.std.specs.List.{AllZip}
use Rattle.stm_visited.specs.Answers.{IsVisited, OpenIsSpent as VisitedIsSpent, OpenIsFar as VisitedIsFar}
use Rattle.stm_explore.specs.Explored.{IsExplored, OpenIsSpent, OpenIsFar}
use Rattle.stm_explore.specs.Spots.{rules_steps}
use Rattle.stm_explore.proofs.Zipped.{zip_next, there}
use Rattle.stm_explore.proofs.RuleSteps.{visited_one, far_one}
use Rattle.stm_explore.proofs.exploring.with_ends.Goals as goal

pub with_end-requires : goal.with_end-requires
with_end-requires c =
    visited_one c.args.judged.now.rules.now c.args.judged.now.others.now c.loop-index.index c.index-rules-index.result (record { world = c.args.start.now; taken = 0 })
    c.index-answers-index.result
    (there c.args.judged.now.rules.now c.loop-index.index c.index-rules-index.result (omega (arith, c.requires.each, c.loop-index-test.true)) c.index-rules-index.is)
    (subst (IsVisited (rules_steps c.args.judged.now.rules.now c.args.judged.now.others.now c.loop-index.index) (record { world = c.args.start.now; taken = 0 }))
    (sym c.index-answers-index.is) (c.requires.visited c.loop-index.index c.index-answers-index.result (omega (arith, c.loop-index-test.true))))

pub loop-index-preserved : goal.loop-index-preserved
loop-index-preserved c = record {
  explored =
      subst (AllZip (λ rule. IsExplored rule (record { world = c.args.start.now; others = c.args.judged.now.others.now })) (take (c.loop-index.index + 1) c.args.judged.now.rules.now))
      (sym c.in_ok-push.ensures.items)
      (zip_next (λ rule. IsExplored rule (record { world = c.args.start.now; others = c.args.judged.now.others.now })) c.args.judged.now.rules.now c.loop-index.all.items
      c.loop-index.index c.index-rules-index.result c.in_ok-explored.explored (omega (arith, c.requires.each, c.loop-index-test.true)) c.index-rules-index.is
      c.in_ok-explored.ensures.explored c.loop-index.invariant.explored);
  same = λ left each.
      subst (All (OpenIsSpent left)) (sym c.in_ok-push.ensures.items)
      (All-push (OpenIsSpent left) c.loop-index.all.items c.in_ok-explored.explored (c.loop-index.invariant.same left each)
      (c.in_ok-explored.ensures.same left
      (subst (VisitedIsSpent left) (sym c.index-answers-index.is) (each c.loop-index.index c.index-answers-index.result (omega (arith, c.loop-index-test.true))))));
  far = λ made each.
      subst (All (OpenIsFar (record { world = c.args.start.now; others = c.args.judged.now.others.now }) made)) (sym c.in_ok-push.ensures.items)
      (All-push (OpenIsFar (record { world = c.args.start.now; others = c.args.judged.now.others.now }) made) c.loop-index.all.items c.in_ok-explored.explored
      (c.loop-index.invariant.far made each)
      (c.in_ok-explored.ensures.far made
      (far_one c.args.judged.now.rules.now c.args.judged.now.others.now c.loop-index.index c.index-rules-index.result (record { world = c.args.start.now; taken = 0 }) made
      c.index-answers-index.result
      (there c.args.judged.now.rules.now c.loop-index.index c.index-rules-index.result (omega (arith, c.requires.each, c.loop-index-test.true)) c.index-rules-index.is)
      (subst (VisitedIsFar (rules_steps c.args.judged.now.rules.now c.args.judged.now.others.now c.loop-index.index) (record { world = c.args.start.now; taken = 0 }) made)
      (sym c.index-answers-index.is) (each c.loop-index.index c.index-answers-index.result (omega (arith, c.loop-index-test.true)))))));
}
