use Rattle.std.proofs.Common.{◌∙◌, cond, None, ap, sym}
use Rattle.std.specs.List.{find}
use Rattle.stm_attempt.specs.ReadyRun.{ReadyRun}
use Rattle.stm_journal.specs.Verdicts.{has_other_value, first_unvouched}
use Rattle.stm_journal.proofs.vouching.find_unvouched.Goals as goal

-- at a level that compares
pub returns-then-is_comparing : goal.returns-then-is_comparing
returns-then-is_comparing c =
    c.find_other_value.ensures
    ∙ ap (find (has_other_value c.args.keys.now.history)) c.as_slice.ensures.answers
    ∙ sym (ap (λ b. cond b (find (has_other_value c.args.keys.now.history) c.ready.inside.answers) None)
    (sym c.is_comparing.ensures ∙ c.if-is_comparing.true))
    ∙ ap (λ (r : ReadyRun). first_unvouched c.args.keys.now.history r.level r.answers) c.ready.view_is

pub returns-else-is_comparing : goal.returns-else-is_comparing
returns-else-is_comparing c =
    sym (ap (λ b. cond b (find (has_other_value c.args.keys.now.history) c.ready.inside.answers) None)
    (sym c.is_comparing.ensures ∙ c.if-is_comparing.false))
    ∙ ap (λ (r : ReadyRun). first_unvouched c.args.keys.now.history r.level r.answers) c.ready.view_is
