use Rattle.std.proofs.Common.{List, Result, sym, subst}
use Rattle.stm_events.specs.declared.reply.Reply.{Reply}
use Rattle.stm_events.specs.declared.refusal.Denied.{Denied}
use Rattle.stm_world.specs.World.{world_after}
use Rattle.stm_records.proofs.Moments.{started}
use Rattle.stm_lasting.specs.Kept.{IsWorldBeforeOrAfter}
use Rattle.stm_lasting.proofs.Leading.{still}
use Rattle.stm_storing.specs.Running.{EndInCommit}
use Rattle.stm_storing.proofs.running.keep_commit.Goals as goal

pub returns-in_err-commits-clause-any_moment : goal.returns-in_err-commits-clause-any_moment
returns-in_err-commits-clause-any_moment g c =
    let disk = c.args.records.now.disk in
    let file = g.D.Disk.seen disk in
    let after = world_after c.args.scenario.now.events c.args.world in
    started g.D.Disk.moment g.D.Disk.left_since disk (IsWorldBeforeOrAfter file c.args.text.now after)
    (λ f left. still file c.args.text.now after f (c.requires.settled.durable f (g.met.D.Disk.only_now disk f left)))

pub returns-then-not-commits-clause-any_moment : goal.returns-then-not-commits-clause-any_moment
returns-then-not-commits-clause-any_moment g c =
    let disk = c.args.records.now.disk in
    let file = g.D.Disk.seen disk in
    let after = world_after c.args.scenario.now.events c.args.world in
    started g.D.Disk.moment g.D.Disk.left_since disk (IsWorldBeforeOrAfter file c.args.text.now after)
    (λ f left. still file c.args.text.now after f (c.requires.settled.durable f (g.met.D.Disk.only_now disk f left)))

pub returns-clause-ended : goal.returns-clause-ended
returns-clause-ended g c =
    subst (λ (replies : List (Result Reply Denied)). EndInCommit c.args.runner replies) (sym c.in_ok-gone.ensures.replies) (c.in_ok-commits.ensures c.if-not-commits.false)
