use Rattle.std.proofs.Common.{inl, ap, sym, ◌∙◌}
use Rattle.stm_world.specs.World.{opened}
use Rattle.stm_records.proofs.Moments.{started}
use Rattle.stm_storing.specs.Storing.{LeavesAroundRun}
use Rattle.stm_records.proofs.Crash.{alike}
use Rattle.stm_storing.proofs.Ready.{is_ready}
use Rattle.stm_storing.proofs.jobs.run_and_keep.Goals as goal

pub returns-in_err-world-clause-any_moment : goal.returns-in_err-world-clause-any_moment
returns-in_err-world-clause-any_moment g c =
    let disk = c.args.records.now.disk in
    let file = g.D.Disk.seen disk in
    started g.D.Disk.moment g.D.Disk.left_since disk (LeavesAroundRun file)
    (λ f left. inl (alike file f (c.requires.settled.durable f (g.met.D.Disk.only_now disk f left))))

pub returns-in_err-done-clause-any_moment : goal.returns-in_err-done-clause-any_moment
returns-in_err-done-clause-any_moment g c =
    let disk = c.args.records.now.disk in
    let file = g.D.Disk.seen disk in
    started g.D.Disk.moment g.D.Disk.left_since disk (LeavesAroundRun file)
    (λ f left. inl (alike file f (c.requires.settled.durable f (g.met.D.Disk.only_now disk f left))))

pub keep_done-requires-clause-ready : goal.keep_done-requires-clause-ready
keep_done-requires-clause-ready g c =
    is_ready c.args.kept.end (g.D.Disk.seen c.args.records.now.disk) c.args.kept.world c.in_ok-world.world c.in_ok-done.done.written.scenario c.requires.end
    c.requires.kept (λ none. c.in_ok-world.ensures.new none ∙ sym (ap opened c.in_ok-done.ensures.opens)) c.in_ok-world.ensures.old

pub returns-clause-run : goal.returns-clause-run
returns-clause-run g c = record {
  scenario = c.in_ok-done.done.written.scenario;
  opens = c.in_ok-done.ensures.opens;
  before = c.in_ok-world.world;
  ready =
      is_ready c.args.kept.end (g.D.Disk.seen c.args.records.now.disk) c.args.kept.world c.in_ok-world.world c.in_ok-done.done.written.scenario c.requires.end
      c.requires.kept (λ none. c.in_ok-world.ensures.new none ∙ sym (ap opened c.in_ok-done.ensures.opens)) c.in_ok-world.ensures.old;
  kept = c.in_ok-keep_done.ensures.kept;
  ran = c.in_ok-done.ensures.ran;
}
