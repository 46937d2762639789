use Rattle.std.proofs.Common.{IfOk, ap, subst, ◌∙◌}
use Rattle.stm_history.specs.History.{History}
use Rattle.stm_txn.specs.Standing.{Standing}
use Rattle.stm_report.specs.FormatScript.{IsTextOver}
use Rattle.stm_report.proofs.format_script.render.Goals as goal

pub returns : goal.returns
returns c =
    let a = c.args in
    subst (λ (h : History). IfOk c.render_over.result (λ text. IsTextOver h a.since a.format a.labels.now a.world.now a.events.now a.replies.now text.items))
    (c.keys-keys.ensures.history ∙ ap (λ (s : Standing). s.history) c.store.ensures.standing) c.render_over.ensures
