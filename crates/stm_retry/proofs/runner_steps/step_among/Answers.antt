use Rattle.std.proofs.Common.{List, sym, ◌∙◌, ap}
use Rattle.stm_world.specs.World.{Slot, with_slot}
use Rattle.stm_retry.specs.RunnerReturns.{slot_after}
use Rattle.stm_retry.proofs.SharingLemmas.{quiet_reports}
use Rattle.stm_retry.proofs.runner_steps.step_among.Goals as goal

pub returns-in_ok-reply-in-Some-2 : goal.returns-in_ok-reply-in-Some-2
returns-in_ok-reply-in-Some-2 c =
    quiet_reports c.args.id c.args.journal.now c.args.runners.now.items c.put_back.new.runners.items c.in-Some.runner.runner c.step_quietly.new.self.runner
    c.in-Some-2.outcome c.in_ok-reply-in-Some-2.reply (sym c.in-Some.ensures.found)
    c.in_ok-step_quietly.field-0 c.in-Some-2.is c.in_ok-step_quietly.ensures
    (c.in_ok-reply-in-Some-2.ensures.slots ∙ ap (λ (l : List Slot). with_slot c.args.id (slot_after c.in-Some-2.outcome c.step_quietly.new.self.runner) l) c.in-Some.ensures.taken)
    c.in_ok-reply-in-Some-2.ensures.reply
