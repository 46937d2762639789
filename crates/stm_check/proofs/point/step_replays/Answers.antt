use Rattle.std.proofs.Common.{sym, subst}
use Rattle.std.specs.Prelude.{Result, IfOk, IsTrue, ◌↔◌, option_copied}
use Rattle.stm_events.specs.declared.refusal.Denied.{Denied}
use Rattle.stm_events.specs.declared.reply.Reply.{Reply}
use Rattle.stm_check.specs.Replays.{StepReplays}
use Rattle.stm_check.proofs.point.step_replays.Goals as goal

pub returns-in-Ok-clause-right : goal.returns-in-Ok-clause-right
returns-in-Ok-clause-right c =
    subst (λ (x : Result Reply Denied). IfOk c.taken_step_replays.result (λ b. IsTrue b ↔ StepReplays c.args.store.now.standing (option_copied c.args.runner) x))
    (sym c.in-Ok.is) c.taken_step_replays.ensures.right
