use Rattle.std.proofs.Common.{◌≡◌, List, Some, sym, subst}
use Rattle.stm_schedules.specs.declared.moves.Move.{Move}
use Rattle.stm_schedules.specs.Schedules.{place_after}
use Rattle.stm_schedules.specs.Keeping.{end_alone}
use Rattle.stm_visited.specs.declared.visited.Visited.{Visited}
use Rattle.stm_visited.specs.Answers.{IsVisited, OpenIsSpent, OpenIsFar as IsFar}
use Rattle.stm_explore.specs.declared.exploring.Explored.TheVariants.{Broken}
use Rattle.stm_explore.specs.Explored.{IsExplored}
use Rattle.stm_explore.specs.Spots.{rule_steps}
use Rattle.stm_explore.proofs.Walking.{always_kept, broken_by, open_at, as_far}
use Rattle.stm_explore.proofs.exploring.with_end.Goals as goal

pub returns-in-Always-clause-explored : goal.returns-in-Always-clause-explored
returns-in-Always-clause-explored c =
    always_kept c.args.rule.now c.args.judged.now.others.now c.args.start.now c.in-Always.longest
    (subst (λ (it : Visited Move). IsVisited (rule_steps c.args.rule.now c.args.judged.now.others.now) (record { world = c.args.start.now; taken = 0 }) it)
    c.in-Always.is c.requires)

pub returns-in_ok-moves-in-Broken-clause-explored : goal.returns-in_ok-moves-in-Broken-clause-explored
returns-in_ok-moves-in-Broken-clause-explored c =
    subst (λ (ms : List Move). IsExplored c.args.rule.now (record { world = c.args.start.now; others = c.args.judged.now.others.now }) (Broken ms c.in_ok-end-in-Broken.end))
    (sym c.in_ok-moves-in-Broken.ensures)
    (broken_by c.args.rule.now c.args.judged.now.others.now c.args.start.now c.in-Broken.moves c.in_ok-end-in-Broken.end
    (subst (λ (it : Visited Move). IsVisited (rule_steps c.args.rule.now c.args.judged.now.others.now) (record { world = c.args.start.now; taken = 0 }) it)
    c.in-Broken.is c.requires)
    (subst (λ ms. end_alone c.args.rule.now (place_after ms (record { world = c.args.start.now; others = c.args.judged.now.others.now })).world ≡ Some c.in_ok-end-in-Broken.end)
    c.as_slice.ensures c.in_ok-end-in-Broken.ensures))

pub returns-in-Open-clause-explored : goal.returns-in-Open-clause-explored
returns-in-Open-clause-explored c =
    open_at c.args.rule.now c.args.judged.now.others.now c.args.start.now c.in-Open.kept
    (subst (λ (it : Visited Move). IsVisited (rule_steps c.args.rule.now c.args.judged.now.others.now) (record { world = c.args.start.now; taken = 0 }) it)
    c.in-Open.is c.requires)

pub returns-in-Open-clause-same : goal.returns-in-Open-clause-same
returns-in-Open-clause-same c = λ left spent. subst (λ (it : Visited Move). OpenIsSpent left it) c.in-Open.is spent

pub returns-in-Open-clause-far : goal.returns-in-Open-clause-far
returns-in-Open-clause-far c = λ made far.
    as_far c.args.rule.now c.args.judged.now.others.now c.args.start.now made c.in-Open.kept
    (subst (λ (it : Visited Move). IsFar (rule_steps c.args.rule.now c.args.judged.now.others.now) (record { world = c.args.start.now; taken = 0 }) made it) c.in-Open.is far)
