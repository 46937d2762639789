use Rattle.std.proofs.Common.{◌∙◌, Result, ap}
use Rattle.stm_events.specs.declared.reply.Reply.{Reply}
use Rattle.stm_events.specs.declared.refusal.Denied.{Denied}
use Rattle.stm_retry.proofs.WorldLemmas.{taken}
use Rattle.stm_faulted_runs.specs.Lines.{reported_by}
use Rattle.stm_faulted_runs.proofs.events.take.Goals as goal

pub returns-in-Ok-clause-reported : goal.returns-in-Ok-clause-reported
returns-in-Ok-clause-reported c =
    let s = taken c.args.event.now c.step-reply.result c.args.world.now c.step-reply.new.self c.in-Ok.ensures c.step-reply.ensures.reported in
    ap (λ (r : Result Reply Denied). reported_by c.args.number r) s.reply_is ∙ c.fault_in-reported.ensures

pub returns-in-Ok-clause-next : goal.returns-in-Ok-clause-next
returns-in-Ok-clause-next c =
    (taken c.args.event.now c.step-reply.result c.args.world.now c.step-reply.new.self c.in-Ok.ensures c.step-reply.ensures.reported).next_is
