use Rattle.std.proofs.Common.{List, subst}
use Rattle.stm_schedules.specs.declared.outcome.RunnerEnd.{RunnerEnd}
use Rattle.stm_visited.specs.Answers.{IsVisited}
use Rattle.stm_explore.specs.Turns.{turn_steps}
use Rattle.stm_explore.proofs.OrderLemmas.{sought}
use Rattle.stm_explore.proofs.orders.find_order.Goals as goal

pub returns-clause-sought : goal.returns-clause-sought
returns-clause-sought g c =
    sought c.args.outcome.now c.in_ok-goal.goal c.args.others.now c.args.world.now c.args.ends.now c.in_ok-start.start c.in_ok-visited.visited c.in_ok-goal.ensures
    c.in_ok-start.ensures
    (subst (λ (wanted : List RunnerEnd). IsVisited (turn_steps wanted c.in_ok-goal.goal c.args.others.now) c.in_ok-start.start c.in_ok-visited.visited)
    c.as_slice.ensures c.in_ok-visited.ensures.visited)
