use Rattle.std.proofs.lemmas.Result.{IfOk-weaker}
use Rattle.stm_visited.proofs.LayerLemmas.{all_are_enough}
use Rattle.stm_visited.proofs.system.System.enough.Goals as goal

pub returns : goal.returns
returns g c =
    IfOk-weaker c.moves.result _ _ (λ all is rule. all_are_enough (g.Self.System.steps c.args.self.now rule) c.args.place.now all.items (is rule)) c.moves.ensures
