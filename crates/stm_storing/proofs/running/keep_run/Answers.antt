use Rattle.std.proofs.Common.{inl}
use Rattle.stm_records.proofs.Moments.{started}
use Rattle.stm_storing.specs.Storing.{LeavesAroundRun}
use Rattle.stm_records.proofs.Crash.{alike}
use Rattle.stm_storing.proofs.running.keep_run.Goals as goal

pub returns-in_err-text-clause-any_moment : goal.returns-in_err-text-clause-any_moment
returns-in_err-text-clause-any_moment g c =
    let disk = c.args.records.now.disk in
    let file = g.D.Disk.seen disk in
    started g.D.Disk.moment g.D.Disk.left_since disk (LeavesAroundRun file)
    (λ f left. inl (alike file f (c.requires.settled.durable f (g.met.D.Disk.only_now disk f left))))
