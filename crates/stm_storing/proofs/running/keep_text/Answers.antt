use Rattle.std.proofs.Common.{inl, inr, List, subst}
use Rattle.stm_events.specs.declared.event.WorldEvent.{WorldEvent}
use Rattle.stm_records.proofs.Moments.{started}
use Rattle.stm_lasting.proofs.Moments.{weaker}
use Rattle.stm_storing.specs.Running.{IsRunOf}
use Rattle.stm_storing.specs.Storing.{LeavesAroundRun}
use Rattle.stm_records.proofs.Crash.{alike}
use Rattle.stm_storing.proofs.Ready.{is_ready}
use Rattle.stm_storing.proofs.running.keep_text.Goals as goal

pub returns-in_err-scenario-clause-any_moment : goal.returns-in_err-scenario-clause-any_moment
returns-in_err-scenario-clause-any_moment g c =
    let disk = c.args.records.now.disk in
    let file = g.D.Disk.seen disk in
    started g.D.Disk.moment g.D.Disk.left_since disk (LeavesAroundRun file)
    (λ f left. inl (alike file f (c.requires.settled.durable f (g.met.D.Disk.only_now disk f left))))

pub returns-then-not-is_run_of-clause-any_moment : goal.returns-then-not-is_run_of-clause-any_moment
returns-then-not-is_run_of-clause-any_moment g c =
    let disk = c.args.records.now.disk in
    let file = g.D.Disk.seen disk in
    started g.D.Disk.moment g.D.Disk.left_since disk (LeavesAroundRun file)
    (λ f left. inl (alike file f (c.requires.settled.durable f (g.met.D.Disk.only_now disk f left))))

pub returns-in_err-world-clause-any_moment : goal.returns-in_err-world-clause-any_moment
returns-in_err-world-clause-any_moment g c =
    let disk = c.args.records.now.disk in
    let file = g.D.Disk.seen disk in
    started g.D.Disk.moment g.D.Disk.left_since disk (LeavesAroundRun file)
    (λ f left. inl (alike file f (c.requires.settled.durable f (g.met.D.Disk.only_now disk f left))))

pub keep_commit-requires-clause-ready : goal.keep_commit-requires-clause-ready
keep_commit-requires-clause-ready g c =
    is_ready c.args.kept.end (g.D.Disk.seen c.args.records.now.disk) c.args.kept.world c.in_ok-world.world c.in_ok-scenario.scenario c.requires.end
    c.requires.kept c.in_ok-world.ensures.new c.in_ok-world.ensures.old

pub returns-in_err-replies-clause-any_moment : goal.returns-in_err-replies-clause-any_moment
returns-in_err-replies-clause-any_moment g c =
    let ready = is_ready c.args.kept.end (g.D.Disk.seen c.args.records.now.disk) c.args.kept.world c.in_ok-world.world c.in_ok-scenario.scenario c.requires.end
    c.requires.kept c.in_ok-world.ensures.new c.in_ok-world.ensures.old in
    weaker c.keep_commit.ensures.any_moment
    (λ f left. inr (c.args.text.now, c.in_ok-scenario.scenario, c.in_ok-scenario.ensures.spelled, (c.in_ok-world.world, ready, left)))

pub returns-clause-any_moment : goal.returns-clause-any_moment
returns-clause-any_moment g c =
    let ready = is_ready c.args.kept.end (g.D.Disk.seen c.args.records.now.disk) c.args.kept.world c.in_ok-world.world c.in_ok-scenario.scenario c.requires.end
    c.requires.kept c.in_ok-world.ensures.new c.in_ok-world.ensures.old in
    weaker c.keep_commit.ensures.any_moment
    (λ f left. inr (c.args.text.now, c.in_ok-scenario.scenario, c.in_ok-scenario.ensures.spelled, (c.in_ok-world.world, ready, left)))

pub returns-clause-past : goal.returns-clause-past
returns-clause-past g c = record {
  scenario = c.in_ok-scenario.scenario;
  before = c.in_ok-world.world;
  ready =
      is_ready c.args.kept.end (g.D.Disk.seen c.args.records.now.disk) c.args.kept.world c.in_ok-world.world c.in_ok-scenario.scenario c.requires.end
      c.requires.kept c.in_ok-world.ensures.new c.in_ok-world.ensures.old;
  kept = c.in_ok-replies.ensures.kept;
  replied = c.in_ok-replies.ensures.replies;
  runner = c.args.runner;
  run = subst (λ (events : List WorldEvent). IsRunOf c.args.program.now c.args.manner c.args.runner events) c.as_slice.ensures (c.is_run_of.ensures c.if-not-is_run_of.false);
  ended = c.in_ok-replies.ensures.ended;
}
