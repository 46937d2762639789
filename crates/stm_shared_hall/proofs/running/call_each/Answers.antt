use Rattle.std.proofs.Common.{refl}
use Rattle.std.proofs.lemmas.Result.{IfOk-weaker}
use Rattle.stm_shared_hall.proofs.running.call_each.Goals as goal

pub returns-clause-each : goal.returns-clause-each
returns-clause-each g c = IfOk-weaker c.map_indices.result _ _ (λ results each i d below. (refl, (each i d below).1.met)) c.map_indices.ensures.each
