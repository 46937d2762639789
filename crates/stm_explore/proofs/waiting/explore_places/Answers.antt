use Rattle.std.proofs.Common.{List, subst, sym}
use Rattle.std.specs.List.{AllZip}
use Rattle.stm_schedules.specs.declared.moves.Move.{Move}
use Rattle.stm_visited.specs.declared.visited.Visited.{Visited}
use Rattle.stm_visited.specs.Answers.{EachIs, OpenIsSpent}
use Rattle.stm_world.specs.World.{World}
use Rattle.stm_explore.specs.Waiting.{IsExploredPatiently}
use Rattle.stm_explore.proofs.waiting.explore_places.Goals as goal

pub returns-clause-explored : goal.returns-clause-explored
returns-clause-explored g c =
    let w = c.args.watched.now.waiting in
    subst (λ (world : World). AllZip (λ rule. IsExploredPatiently w.waits.now w.when rule (record { world = world; others = w.gathered.others.now }) c.args.ends.now) w.rules.now c.in_ok-all.all.items)
    c.in_ok-world.ensures c.in_ok-all.ensures.explored

pub returns-clause-spent : goal.returns-clause-spent
returns-clause-spent g c =
    c.in_ok-all.ensures.same _
    (subst (λ (all : List (Visited Move)). EachIs (λ n. OpenIsSpent c.find_first_bad.new.budget.left) all) (sym c.as_slice.ensures.value) c.in_ok-answers.ensures.spent)
