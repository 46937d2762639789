use mir.Syntax.{named}
use denote.Exit.{yes}
use denote.Param.{param}
use denote.Param.Send.{param_send, arg_send, shr_send}
use Rattle.stm_workers.proofs.worker.Worker.TheSendSync as worker
use Rattle.stm_workers.proofs.Shareable.{shared_sync, pair_send}
use Rattle.stm_workers.proofs.employing.start.Goals as goal
use Rattle.stm_workers.proofs.employing.start.Lts as lts

-- what all share is shared, and the worker goes along
pub spawn-requires-send-F : goal.spawn-requires-send-F
spawn-requires-send-F g c κs within =
    param_send 1
    (lts.arg-0-1 g.row.E g.row.R g.row.W g.row.G g.E.laws g.R.laws g.W.laws g.G.laws g.R.RunOfJobs g.R.RunOfJobs-dict g.R.Ledger g.R.Ledger-dict g.W.Wait g.W.Wait-dict
    g.G.Gate g.G.Gate-dict κs)
    (arg_send _ yes _ (pair_send _ _ _
    (shr_send (named 5) κs.1.1.1.1.1.0 _
    (shared_sync (param 1 g.row.R) g.R.RunOfJobs g.R.Ledger (record { mir = named 6; lft = κs.1.1.1.1.1.1.0 }) (param 2 g.row.W) (param 3 g.row.G)
    c.type_bounds.sync-W c.type_bounds.sync-G)) (worker.the_send (param 1 g.row.R) g.R.RunOfJobs g.R.Ledger)))
