use Rattle.std.proofs.Common.{◌∙◌, ◌++◌, ℕ, List, ap, subst, string_bytes}
use Rattle.stm_explain.specs.Explaining.{IsExplanation}
use Rattle.stm_explain.proofs.LineLemmas.{grown}
use Rattle.stm_explain.proofs.explaining.add_line.Goals as goal

pub returns : goal.returns
returns c =
    let name = c.args.read.now.name.now in
    let said = string_bytes c.args.said.now in
    let line = string_bytes c.in_ok-line.line in
    grown name c.args.read.now.text.now said line (string_bytes c.push_str.new.self) c.requires
    (subst (λ (text : List ℕ). IsExplanation name text line) c.as_bytes.ensures.value c.in_ok-line.ensures)
    (c.in_ok-push_str.ensures.bytes ∙ ap (λ (more : List ℕ). said ++ more) c.as_str.ensures.value)
