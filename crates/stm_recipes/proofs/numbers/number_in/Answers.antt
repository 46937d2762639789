use Rattle.std.proofs.Common.{rules, ◌≡◌, ℕ, sym, ◌∙◌, ap, subst, Ok, Err, Some}
use Rattle.std.specs.Prelude.{FitsSigned, slice_index}
use Rattle.std.proofs.lemmas.Int.{to_z-of_z}
use mir.Syntax.{w64}
use Rattle.stm_steps.proofs.WrittenNumber.{written_number-plus, written_number-parse}
use Rattle.stm_recipes.specs.Accounts.{written_or_none}
use Rattle.stm_recipes.proofs.numbers.number_in.Goals as goal

pub returns-then-starts_with_plus : goal.returns-then-starts_with_plus
returns-then-starts_with_plus c =
    let h : slice_index c.args.text.now 0 ≡ 43 = search rules in sym (ap written_or_none (written_number-plus c.args.text.now h))

pub returns-in-Ok : goal.returns-in-Ok
returns-in-Ok c =
    let fits : FitsSigned w64 c.in-Ok.number = subst (λ z. FitsSigned w64 z) (sym c.in-Ok.ensures.value.0.1) c.in-Ok.ensures.value.0.0.1 in
    let other : slice_index c.args.text.now 0 ≡ 43 → ⊥ = search rules in
    ap (λ z. Some z) (to_z-of_z w64 _ fits)
    ∙ sym (ap written_or_none (written_number-parse {E = ℕ} c.args.text.now (Ok c.in-Ok.number) c.in-Ok.ensures.value.0 other))

pub returns-in-Err : goal.returns-in-Err
returns-in-Err c =
    let other : slice_index c.args.text.now 0 ≡ 43 → ⊥ = search rules in
    sym (ap written_or_none (written_number-parse {E = ℕ} c.args.text.now (Err 0) c.in-Err.ensures.value.0 other))
