use Rattle.std.proofs.Common.{◌≡◌, ℕ, List, Result, IfOk, length, ap, sym, subst, ◌∙◌}
use Rattle.stm_history.specs.History.{History}
use Rattle.stm_keys.specs.Keys.{Contents}
use Rattle.stm_txn.specs.Standing.{Standing}
use Rattle.stm_events.specs.declared.reply.Reply.{Reply}
use Rattle.stm_events.specs.declared.refusal.Denied.{Denied}
use Rattle.stm_world.specs.World.{World, world_after, replies_to}
use Rattle.stm_report.specs.FormatScript.{IsTextOver}
use Rattle.stm_report.proofs.FormatRowLemmas.{one_reply}
use Rattle.stm_report.proofs.RunHistories.{all_kept}
use Rattle.stm_report.proofs.format_script.whole_from.Goals as goal

pub run_with_history-requires : goal.run_with_history-requires
run_with_history-requires c = record {
  sound = c.requires.sound;
  whole = ap (λ (k : Contents). k.history) c.in_ok-keys.ensures ∙ c.keys.ensures.history ∙ ap (λ (s : Standing). s.history) c.store.ensures.standing
      ∙ all_kept c.args.world.now.standing c.requires.floor;
}

pub render_over-requires : goal.render_over-requires
render_over-requires c =
    let events = c.args.events.now in
    let begun : World = c.args.world.now in
    let replies : c.as_slice.result.now ≡ replies_to events begun = c.as_slice.ensures.value ∙ c.in_ok-replies.ensures.replies in
    sym (ap (λ (rs : List (Result Reply Denied)). length rs) replies ∙ one_reply events begun)

pub returns : goal.returns
returns c =
    let a = c.args in
    let begun : World = a.world.now in
    let ended : World = world_after a.events.now begun in
    let replies : c.as_slice.result.now ≡ replies_to a.events.now begun = c.as_slice.ensures.value ∙ c.in_ok-replies.ensures.replies in
    let world = c.in_ok-replies.ensures.world in
    let history = c.in_ok-replies.ensures.whole.whole ∙ ap (λ (w : World). w.standing.history) world in
    subst (λ (n : ℕ). IfOk c.render_over.result (λ text. IsTextOver ended.standing.history n a.format a.labels.now ended a.events.now (replies_to a.events.now begun) text.items)) c.revision_of-since.ensures
    (subst (λ (h : History). IfOk c.render_over.result (λ text. IsTextOver h c.revision_of-since.result a.format a.labels.now ended a.events.now (replies_to a.events.now begun) text.items)) history
    (subst (λ (w : World). IfOk c.render_over.result (λ text. IsTextOver c.run_with_history.new.whole.history c.revision_of-since.result a.format a.labels.now w a.events.now (replies_to a.events.now begun) text.items)) world
    (subst (λ (rs : List (Result Reply Denied)). IfOk c.render_over.result (λ text. IsTextOver c.run_with_history.new.whole.history c.revision_of-since.result a.format a.labels.now c.run_with_history.new.world a.events.now rs text.items)) replies
    c.render_over.ensures)))
