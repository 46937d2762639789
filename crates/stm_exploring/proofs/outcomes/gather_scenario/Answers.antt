use Rattle.std.proofs.Common.{[]}
use Rattle.std.specs.Prelude.{IfOk}
use Rattle.stm_exploring.specs.Questions.{AreGathered}
use Rattle.stm_exploring.proofs.PlaceLemmas.{so_begun}
use Rattle.stm_exploring.proofs.outcomes.gather_scenario.Goals as goal

pub tell_runs-requires : goal.tell_runs-requires
tell_runs-requires g c = c.in_ok-begun.ensures.ready

pub returns : goal.returns
returns g c =
    so_begun (λ p ends. IfOk c.gather_in_either-gathered.result (AreGathered p ends)) c.args.scenario.now [] c.in_ok-begun.begun c.in_ok-begun.ensures
    c.gather_in_either-gathered.ensures
