use denote.Exit.{yes}
use denote.Param.Send.{param_sync, arg_sync}
use Rattle.std.proofs.Common.{refl}
use Rattle.std.proofs.lemmas.Result.{IfOk-weaker}
use Rattle.stm_shared_hall.proofs.Crossing.{shared_sync}
use Rattle.stm_shared_hall.proofs.running.run_on_threads.Goals as goal
use Rattle.stm_shared_hall.proofs.running.run_on_threads.Lts as lts

-- what the calls share
pub call_each-results-requires-sync-S : goal.call_each-results-requires-sync-S
call_each-results-requires-sync-S g c κs within =
    param_sync 2
    (lts.arg-1-2 g.row.X g.row.W g.row.F g.X.laws g.W.laws g.F.laws g.W.Threads-dict g.W.Wait-dict g.F.Fn-dict g.F.FnMut-dict g.F.FnOnce-dict
    g.X.Destruct-dict g.F.Destruct-dict κs)
    (arg_sync _ yes _ shared_sync)

-- what they returned
pub returns-clause-each : goal.returns-clause-each
returns-clause-each g c =
    IfOk-weaker c.call_each-results.result _ _ (λ results each i d below. (refl, (each i d below).1.met)) c.call_each-results.ensures.each
