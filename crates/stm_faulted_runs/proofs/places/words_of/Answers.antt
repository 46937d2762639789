use Rattle.std.proofs.Common.{◌++◌, ◌∙◌, List, ℕ, ap, codes}
use Rattle.std.proofs.lemmas.Result.{IfOk-weaker}
use Rattle.stm_faulted_runs.proofs.places.words_of.Goals as goal

pub returns : goal.returns
returns c =
    let reason = c.args.reason.now in
    IfOk-weaker c.words_at.result _ _ (λ s e. (
      reason,
      e ∙ ap (λ (p : List ℕ). codes " at " ++ p ++ codes ": " ++ reason) (c.as_str.ensures.value ∙ c.in_ok-pointer.ensures),
    )) c.words_at.ensures
