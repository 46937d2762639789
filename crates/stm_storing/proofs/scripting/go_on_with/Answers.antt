use Rattle.stm_records.proofs.Moments.{started}
use Rattle.stm_lasting.proofs.Moments.{weaker}
use Rattle.stm_storing.specs.Storing.{LeavesAround}
use Rattle.stm_storing.proofs.Around.{not_yet}
use Rattle.stm_storing.proofs.Ready.{is_ready}
use Rattle.stm_storing.proofs.scripting.go_on_with.Goals as goal

pub go_on_over-requires-clause-ready : goal.go_on_over-requires-clause-ready
go_on_over-requires-clause-ready g c =
    is_ready c.args.kept.end (g.D.Disk.seen c.args.records.now.disk) c.args.kept.world c.in_ok-world.world c.args.scenario.now c.requires.end c.requires.kept
    c.in_ok-world.ensures.new c.in_ok-world.ensures.old

pub returns-in_err-world-clause-any_moment : goal.returns-in_err-world-clause-any_moment
returns-in_err-world-clause-any_moment g c =
    let disk = c.args.records.now.disk in
    let file = g.D.Disk.seen disk in
    started g.D.Disk.moment g.D.Disk.left_since disk (LeavesAround file c.args.text.now c.args.scenario.now)
    (λ f left.
    not_yet c.args.kept.end file c.args.text.now c.args.kept.world c.args.scenario.now c.requires.end c.requires.kept f
    (c.requires.settled.durable f (g.met.D.Disk.only_now disk f left)))

pub returns-in-Ok-clause-run : goal.returns-in-Ok-clause-run
returns-in-Ok-clause-run g c =
    let ready = is_ready c.args.kept.end (g.D.Disk.seen c.args.records.now.disk) c.args.kept.world c.in_ok-world.world c.args.scenario.now c.requires.end c.requires.kept
    c.in_ok-world.ensures.new c.in_ok-world.ensures.old in
    (c.in_ok-world.world, ready, c.in-Ok.ensures.world, c.in-Ok.ensures.replies, c.in-Ok.ensures.since)

pub returns-in-Ok-clause-any_moment : goal.returns-in-Ok-clause-any_moment
returns-in-Ok-clause-any_moment g c =
    let ready = is_ready c.args.kept.end (g.D.Disk.seen c.args.records.now.disk) c.args.kept.world c.in_ok-world.world c.args.scenario.now c.requires.end c.requires.kept
    c.in_ok-world.ensures.new c.in_ok-world.ensures.old in
    weaker c.go_on_over.ensures.any_moment (λ f left. (c.in_ok-world.world, ready, left))

pub returns-in-Err-clause-any_moment : goal.returns-in-Err-clause-any_moment
returns-in-Err-clause-any_moment g c =
    let ready = is_ready c.args.kept.end (g.D.Disk.seen c.args.records.now.disk) c.args.kept.world c.in_ok-world.world c.args.scenario.now c.requires.end c.requires.kept
    c.in_ok-world.ensures.new c.in_ok-world.ensures.old in
    weaker c.go_on_over.ensures.any_moment (λ f left. (c.in_ok-world.world, ready, left))
