use Rattle.std.proofs.Common.{ℕ, List, inr, subst, string_bytes}
use Rattle.stm_explain.specs.Explaining.{AreExplanations}
use Rattle.stm_explain.proofs.kept_source.KeptSource.explanation.Goals as goal

pub returns-in-Ok : goal.returns-in-Ok
returns-in-Ok g c =
    inr (subst (λ (text : List ℕ). AreExplanations c.args.self.now.name.now text (string_bytes c.in-Ok.line)) c.as_slice.ensures.value c.in-Ok.ensures)
