use Rattle.std.proofs.Common.{◌≡◌, ◌++◌, List, ℕ, Some, OnOk, sym, ap, subst, ◌∙◌, string_bytes}
use Rattle.stm_history.specs.History.{History, key_now}
use Rattle.stm_report.proofs.LineLoops.{one_key}
use Rattle.stm_report.proofs.report_text.push_key.Goals as goal

pub returns-in-Some : goal.returns-in-Some
returns-in-Some c =
    let h = c.args.store.now.standing.history in
    let key = c.args.key.now in
    let state = c.in-Some.state.now in
    let present : Some state ≡ key_now h key = c.in-Some.ensures.value ∙ ap (λ (kept : History). key_now kept key) c.keys.ensures.history in
    subst (λ (line : List ℕ). OnOk c.push_state.result (string_bytes c.push_state.new.text ≡ string_bytes c.args.text.now ++ line))
    (sym (one_key c.args.form h key state present)) c.push_state.ensures
