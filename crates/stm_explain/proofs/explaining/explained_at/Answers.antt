use Rattle.std.proofs.Common.{◌∙◌, ℕ, List, ap, take}
use Rattle.std.proofs.lemmas.Result.{IfOk-weaker}
use Rattle.stm_explain.specs.Explaining.{explanation}
use Rattle.stm_explain.specs.Positions.{place_after}
use Rattle.stm_explain.proofs.explaining.explained_at.Goals as goal

pub returns : goal.returns
returns c =
    let words = c.args.words.now in
    IfOk-weaker c.line_of.result _ _ (λ s e. (
      c.in_ok-offset.offset,
      c.in_ok-offset.ensures,
      e
          ∙ ap (λ (p : ℕ × ℕ). explanation c.args.name.now p.0 p.1 words)
          (c.position_of-at.ensures ∙ ap (λ (b : List ℕ). place_after (take c.in_ok-offset.offset b)) c.as_bytes.ensures.value),
    )) c.line_of.ensures
