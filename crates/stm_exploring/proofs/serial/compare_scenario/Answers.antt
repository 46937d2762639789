use Rattle.std.proofs.Common.{[]}
use Rattle.std.specs.Prelude.{IfOk}
use Rattle.stm_explore.specs.Orders.{IsSerialAnswer}
use Rattle.stm_exploring.proofs.PlaceLemmas.{so_begun}
use Rattle.stm_exploring.proofs.serial.compare_scenario.Goals as goal

pub returns : goal.returns
returns g c =
    so_begun (λ p ends. IfOk c.compare_in_either-answer.result (IsSerialAnswer p ends)) c.args.scenario.now [] c.in_ok-begun.begun c.in_ok-begun.ensures
    c.compare_in_either-answer.ensures
