use Rattle.std.proofs.Common.{Option, sym, subst}
use Rattle.std.specs.Prelude.{IfOk, IsTrue, ◌↔◌}
use Rattle.stm_events.specs.declared.event.WorldEvent.{WorldEvent}
use Rattle.stm_txn.specs.Standing.{Standing}
use Rattle.stm_check.specs.declared.runner.Runner.{Runner}
use Rattle.stm_check.specs.Replays.{StepReplays, Replays}
use Rattle.stm_check.proofs.point.replays.Goals as goal

pub returns-in-Step-clause-right : goal.returns-in-Step-clause-right
returns-in-Step-clause-right c =
    let s : Standing = c.args.store.now.standing in
    let replied = c.args.reply.now in
    subst (λ (event : WorldEvent). IfOk c.step_replays.result (λ b. IsTrue b ↔ Replays s c.args.runners.now event replied)) (sym c.in-Step.is)
    (subst (λ (o : Option Runner). IfOk c.step_replays.result (λ b. IsTrue b ↔ StepReplays s o replied)) c.find_running.ensures c.step_replays.ensures.right)
