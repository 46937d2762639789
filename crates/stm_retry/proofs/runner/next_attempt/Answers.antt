use Rattle.std.proofs.Common.{◌≡◌, ◌∙◌, Bool, true, false, List, [], if◌then◌else◌, refl, sym, ap}
use Rattle.std.proofs.lemmas.Result.{IfOk-weaker}
use Rattle.stm_history.specs.declared.key_state.ReadAnswer.{ReadAnswer}
use Rattle.stm_program.specs.Levels.{is_serializable}
use Rattle.stm_attempt.specs.AttemptState.{begun}
use Rattle.stm_retry.proofs.runner.next_attempt.Goals as goal

kept : (s : Bool) (answers : List ReadAnswer) → (s ≡ false → answers ≡ []) → (if s then answers else []) ≡ answers
kept true answers none = refl
kept false answers none = sym (none refl)

pub returns : goal.returns
returns c = IfOk-weaker c.after_conflict.result _ _ (λ attempt is. is
    ∙ ap (begun c.args.level) (kept (is_serializable c.args.level) c.args.answers c.requires.only_serializable)) c.after_conflict.ensures
