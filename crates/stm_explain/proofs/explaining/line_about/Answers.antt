use Rattle.std.proofs.Common.{◌∙◌, ℕ, ap}
use Rattle.std.proofs.lemmas.Result.{IfOk-weaker}
use Rattle.stm_explain.specs.Explaining.{explanation}
use Rattle.stm_explain.proofs.explaining.line_about.Goals as goal

pub returns : goal.returns
returns c =
    let words = c.as_str.result.now in
    IfOk-weaker c.line_of.result _ _ (λ s e. (
      c.args.reported.now.offset,
      c.requires,
      words,
      e ∙ ap (λ (p : ℕ × ℕ). explanation c.args.name.now p.0 p.1 words) c.position_of-at.ensures,
    )) c.line_of.ensures
