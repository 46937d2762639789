use Rattle.std.proofs.Common.{◌∙◌, ℕ, ap}
use Rattle.std.proofs.lemmas.Result.{IfOk-weaker}
use Rattle.stm_explain.specs.Explaining.{explanation}
use Rattle.stm_explain.proofs.marked.Marked.explained_at.Goals as goal

pub returns : goal.returns
returns c =
    let words = c.args.words.now in
    let name = c.args.self.now.name.now in
    let mark = c.in_ok-mark.ensures in
    IfOk-weaker c.line_of.result _ _
    (λ s e. (c.in_ok-mark.mark.offset, mark.0, e ∙ ap (λ (p : ℕ × ℕ). explanation name p.0 p.1 words) mark.1)) c.line_of.ensures
