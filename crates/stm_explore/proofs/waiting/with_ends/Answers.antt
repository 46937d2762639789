use Rattle.std.proofs.Common.{◌+◌, All, take, sym, subst, arith}
use Rattle.std.proofs.lemmas.List.Elements.{All-push}
use Rattle.std.specs.List.{AllZip}
use Rattle.stm_schedules.specs.Places.{Place}
use Rattle.stm_visited.specs.Answers.{IsVisited, OpenIsSpent as VisitedIsSpent}
use Rattle.stm_explore.specs.Explored.{OpenIsSpent}
use Rattle.stm_explore.specs.Waiting.{waiting_rules_steps, IsExploredPatiently}
use Rattle.stm_explore.proofs.WaitingPlaces.{start_of}
use Rattle.stm_explore.proofs.Zipped.{zip_next, there}
use Rattle.stm_explore.proofs.RuleSteps.{waited_one}
use Rattle.stm_explore.proofs.waiting.with_ends.Goals as goal

pub with_end-requires : goal.with_end-requires
with_end-requires c =
    let w = c.args.waiting.now in
    waited_one w.waits.now w.when w.rules.now w.gathered.others.now c.loop-index.index c.index-rules-index.result (start_of c.args.start.now c.args.ends.now)
    c.index-answers-index.result
    (there w.rules.now c.loop-index.index c.index-rules-index.result (omega (arith, c.requires.each, c.loop-index-test.true)) c.index-rules-index.is)
    (subst (IsVisited (waiting_rules_steps w.waits.now w.when w.rules.now w.gathered.others.now c.loop-index.index) (start_of c.args.start.now c.args.ends.now))
    (sym c.index-answers-index.is) (c.requires.visited c.loop-index.index c.index-answers-index.result (omega (arith, c.loop-index-test.true))))

pub loop-index-preserved : goal.loop-index-preserved
loop-index-preserved c =
    let w = c.args.waiting.now in
    let p : Place = record { world = c.args.start.now; others = w.gathered.others.now } in
    record {
      explored =
          subst (AllZip (λ rule. IsExploredPatiently w.waits.now w.when rule p c.args.ends.now) (take (c.loop-index.index + 1) w.rules.now)) (sym c.in_ok-push.ensures.items)
          (zip_next (λ rule. IsExploredPatiently w.waits.now w.when rule p c.args.ends.now) w.rules.now c.loop-index.all.items c.loop-index.index c.index-rules-index.result
          c.in_ok-explored.explored (omega (arith, c.requires.each, c.loop-index-test.true)) c.index-rules-index.is c.in_ok-explored.ensures.explored
          c.loop-index.invariant.explored);
      same = λ left each.
          subst (All (OpenIsSpent left)) (sym c.in_ok-push.ensures.items)
          (All-push (OpenIsSpent left) c.loop-index.all.items c.in_ok-explored.explored (c.loop-index.invariant.same left each)
          (c.in_ok-explored.ensures.same left
          (subst (VisitedIsSpent left) (sym c.index-answers-index.is) (each c.loop-index.index c.index-answers-index.result (omega (arith, c.loop-index-test.true))))));
    }
