use Rattle.std.proofs.Common.{◌≡◌, false, sym, subst, ◌∙◌}
use Rattle.stm_retry.specs.Returns.{IsStep, ran_out}
use Rattle.stm_retry.proofs.WorldLemmas.{taken}
use Rattle.stm_world.specs.World.{World, step}
use Rattle.stm_report.specs.RunHistory.{IsBehind}
use Rattle.stm_report.proofs.RunHistories.{behind_after}
use Rattle.stm_report.proofs.run_history.take_event.Goals as goal

pub catch_up-requires : goal.catch_up-requires
catch_up-requires c =
    let w : World = c.args.world.now in
    let had : ran_out c.step-reply.result ≡ false = sym c.is_out_of_memory.ensures ∙ c.if-is_out_of_memory.false in
    let s : IsStep (step c.args.event.now w) c.step-reply.result c.step-reply.new.self =
    taken c.args.event.now c.step-reply.result w c.step-reply.new.self had c.step-reply.ensures.reported in
    subst (IsBehind c.args.whole.now.history) s.next_is (behind_after c.args.event.now w c.args.whole.now.history c.requires)

pub returns-in-Ok-clause-reply : goal.returns-in-Ok-clause-reply
returns-in-Ok-clause-reply c =
    let w : World = c.args.world.now in
    let had : ran_out c.step-reply.result ≡ false = sym c.is_out_of_memory.ensures ∙ c.if-is_out_of_memory.false in
    sym (taken c.args.event.now c.step-reply.result w c.step-reply.new.self had c.step-reply.ensures.reported).reply_is

pub returns-in-Ok-clause-world : goal.returns-in-Ok-clause-world
returns-in-Ok-clause-world c =
    let w : World = c.args.world.now in
    let had : ran_out c.step-reply.result ≡ false = sym c.is_out_of_memory.ensures ∙ c.if-is_out_of_memory.false in
    sym (taken c.args.event.now c.step-reply.result w c.step-reply.new.self had c.step-reply.ensures.reported).next_is
