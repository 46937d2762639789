use Rattle.std.proofs.Common.{List, length, All, sym, ap, ◌∙◌, subst}
use Rattle.std.specs.List.{AllZip}
use Rattle.stm_world.specs.World.{World}
use Rattle.stm_schedules.specs.declared.moves.Move.{Move}
use Rattle.stm_visited.specs.declared.visited.Visited.{Visited}
use Rattle.stm_visited.specs.Answers.{EachIs, IsVisited, OpenIsSpent as VisitedIsSpent, OpenIsFar as VisitedIsFar}
use Rattle.stm_explore.specs.Explored.{IsExplored, OpenIsFar}
use Rattle.stm_explore.specs.Spots.{rules_steps}
use Rattle.stm_explore.proofs.exploring.explore_schedules.Goals as goal

pub with_ends-requires : goal.with_ends-requires
with_ends-requires g c = record {
  each = ap length c.as_slice.ensures.value ∙ c.in_ok-answers.ensures.each;
  visited = subst (λ (all : List (Visited Move)). EachIs (λ n. IsVisited (rules_steps c.args.rules.now c.args.others.now n) (record { world = c.in_ok-world.world; taken = 0 })) all)
      (sym c.as_slice.ensures.value)
      (subst (λ (w : World). EachIs (λ n. IsVisited (rules_steps c.args.rules.now c.args.others.now n) (record { world = w; taken = 0 })) c.in_ok-answers.answers.items)
      c.in_ok-share.ensures c.in_ok-answers.ensures.visited);
}

pub returns-clause-explored : goal.returns-clause-explored
returns-clause-explored g c =
    subst (λ (w : World). AllZip (λ rule. IsExplored rule (record { world = w; others = c.args.others.now })) c.args.rules.now c.in_ok-all.all.items) c.in_ok-world.ensures
    c.in_ok-all.ensures.explored

pub returns-clause-spent : goal.returns-clause-spent
returns-clause-spent g c =
    c.in_ok-all.ensures.same _
    (subst (λ (all : List (Visited Move)). EachIs (λ n. VisitedIsSpent c.find_first_bad.new.budget.left) all) (sym c.as_slice.ensures.value) c.in_ok-answers.ensures.spent)

pub returns-clause-far : goal.returns-clause-far
returns-clause-far g c =
    subst (λ (w : World). All (OpenIsFar (record { world = w; others = c.args.others.now }) c.args.budget.now.left) c.in_ok-all.all.items) c.in_ok-world.ensures
    (c.in_ok-all.ensures.far c.args.budget.now.left
    (subst (λ (all : List (Visited Move)). EachIs (λ n. VisitedIsFar (rules_steps c.args.rules.now c.args.others.now n) (record { world = c.in_ok-world.world; taken = 0 }) c.args.budget.now.left) all)
    (sym c.as_slice.ensures.value)
    (subst (λ (w : World). EachIs (λ n. VisitedIsFar (rules_steps c.args.rules.now c.args.others.now n) (record { world = w; taken = 0 }) c.args.budget.now.left) c.in_ok-answers.answers.items)
    c.in_ok-share.ensures c.in_ok-answers.ensures.far)))
