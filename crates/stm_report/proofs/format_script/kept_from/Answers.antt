use Rattle.std.proofs.Common.{◌≡◌, ℕ, List, Result, IfOk, length, ap, sym, subst, ◌∙◌}
use Rattle.stm_events.specs.declared.reply.Reply.{Reply}
use Rattle.stm_events.specs.declared.refusal.Denied.{Denied}
use Rattle.stm_world.specs.World.{World, world_after, replies_to}
use Rattle.stm_report.specs.FormatScript.{IsTextSince}
use Rattle.stm_report.proofs.FormatRowLemmas.{one_reply}
use Rattle.stm_report.proofs.format_script.kept_from.Goals as goal

pub render-requires : goal.render-requires
render-requires c =
    let events = c.args.events.now in
    let begun : World = c.args.world.now in
    let replies : c.as_slice.result.now ≡ replies_to events begun = c.as_slice.ensures.value ∙ c.in-Ok.ensures.replies in
    sym (ap (λ (rs : List (Result Reply Denied)). length rs) replies ∙ one_reply events begun)

pub returns-in-Ok : goal.returns-in-Ok
returns-in-Ok c =
    let events = c.args.events.now in
    let begun : World = c.args.world.now in
    let format = c.args.format in
    let labels = c.args.labels.now in
    let world : c.run.new.self ≡ world_after events begun = c.in-Ok.ensures.ok in
    let replies : c.as_slice.result.now ≡ replies_to events begun = c.as_slice.ensures.value ∙ c.in-Ok.ensures.replies in
    subst (λ (n : ℕ). IfOk c.render.result (λ text. IsTextSince n format labels (world_after events begun) events (replies_to events begun) text.items)) c.revision_of-since.ensures
    (subst (λ (w : World). IfOk c.render.result (λ text. IsTextSince c.revision_of-since.result format labels w events (replies_to events begun) text.items)) world
    (subst (λ (rs : List (Result Reply Denied)). IfOk c.render.result (λ text. IsTextSince c.revision_of-since.result format labels c.run.new.self events rs text.items)) replies
    c.render.ensures))
