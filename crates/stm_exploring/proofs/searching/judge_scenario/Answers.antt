use Rattle.std.specs.Prelude.{IfOk}
use Rattle.stm_exploring.specs.Judging.{AreFoundFrom}
use Rattle.stm_exploring.proofs.PlaceLemmas.{so_begun}
use Rattle.stm_exploring.proofs.searching.judge_scenario.Goals as goal

pub returns : goal.returns
returns g c =
    let waits = c.args.waits.now in
    let rules = c.args.rules.now in
    so_begun (λ p ends. IfOk c.judge_in_either-answers.result (λ answers. AreFoundFrom waits rules p ends answers.items)) c.args.scenario.now rules
    c.in_ok-begun.begun c.in_ok-begun.ensures c.judge_in_either-answers.ensures
