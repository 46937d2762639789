-- What `parse` reads is the number that the definition reads, where no `+` stands first.
use Rattle.std.proofs.Common.{◌≡◌, refl, ℕ, ◌<◌, ◌≤◌, ◌^◌, true, false, Bool, arith, List, [], ◌∷◌, length, get_or}
use Rattle.std.specs.Prelude.{ℤ, pos, neg_ℤ, Result, Ok, Err, MatchResult, OkIff, ◌==◌, if◌then◌else◌}
use Rattle.std.proofs.lemmas.Bool.Decides.{nat_tests}
use mir.Syntax.{w64}
use Rattle.std.specs.Str.{all_ascii_digits}
use Rattle.std.specs.Str.Parse.{digits_value, ParsesSigned}
use Rattle.std.proofs.lemmas.Str.Parse.{IsNumeralModel, numerals_by_value, tells_all_ascii_digits, parse_signed_minus, parse_signed_plain}
use Rattle.std.proofs.lemmas.Grind.{common_steps}
use Rattle.stm_steps.specs.declared.fault.Fault.{Fault}
use Rattle.stm_steps.specs.declared.fault.Fault.TheVariants.{NotANumber}
use Rattle.stm_steps.specs.Values.{signed_number, written_number}

abbrev own : IsNumeralModel (λ ds. all_ascii_digits ds ≡ true) (digits_value 10)
own = numerals_by_value (λ ds. all_ascii_digits ds ≡ true) tells_all_ascii_digits

-- what is read of a text is r, or `NotANumber` where r is an error
abbrev Reads : {E : Type 0} → Result ℤ Fault → Result ℤ E → Type 0
Reads read r = MatchResult r (λ z. read ≡ Ok z) (λ _. read ≡ Err NotANumber)

plain : {E : Type 0} (ds : List ℕ) (r : Result ℤ E) →
    OkIff r ((all_ascii_digits ds ≡ true) × (0 < length ds) × (digits_value 10 ds < 2 ^ 63)) (pos (digits_value 10 ds)) → Reads (signed_number (λ z. z) ds) r
plain ds (Ok z) h = grind (arith, common_steps)
plain ds (Err e) h = grind (arith, common_steps)

minus : {E : Type 0} (ds : List ℕ) (r : Result ℤ E) →
    OkIff r ((all_ascii_digits ds ≡ true) × (0 < length ds) × (digits_value 10 ds ≤ 2 ^ 63)) (neg_ℤ (pos (digits_value 10 ds))) →
    Reads (signed_number neg_ℤ ds) r
minus ds (Ok z) h = grind (arith, common_steps)
minus ds (Err e) h = grind (arith, common_steps)

-- a leading `+` is no part of a number
pub written_number-plus : (bs : List ℕ) → get_or bs 0 0 ≡ 43 → written_number bs ≡ Err NotANumber
unfolding written_number
written_number-plus [] h = refl
written_number-plus (c ∷ cs) h = grind (arith, common_steps)

-- without a digit nothing is read
nothing : {E : Type 0} (r : Result ℤ E) →
    OkIff r ((all_ascii_digits [] ≡ true) × (0 < length {A = ℕ} []) × (digits_value 10 [] < 2 ^ 63)) (pos (digits_value 10 [])) → Reads (Err NotANumber) r
nothing (Ok z) h = absurd (omega arith)
nothing (Err e) h = refl

by_sign : {E : Type 0} (c : ℕ) (cs : List ℕ) (r : Result ℤ E) (b : Bool) → ParsesSigned w64 10 (c ∷ cs) r → (c ≡ 43 → ⊥) → (c == 45) ≡ b →
    Reads (if b then signed_number neg_ℤ cs else signed_number (λ z. z) (c ∷ cs)) r
by_sign c cs r true h other e = minus cs r (parse_signed_minus own w64 (c ∷ cs) r h (let same : c ≡ 45 = grind (arith, nat_tests) in same))
by_sign c cs r false h other e = plain (c ∷ cs) r (parse_signed_plain own w64 (c ∷ cs) r h other (λ same. absurd (grind (arith, nat_tests))))

pub written_number-parse : {E : Type 0} (bs : List ℕ) (r : Result ℤ E) → ParsesSigned w64 10 bs r → (get_or bs 0 0 ≡ 43 → ⊥) → Reads (written_number bs) r
unfolding written_number
written_number-parse [] r h other = nothing r (parse_signed_plain own w64 [] r h other (λ e. absurd (omega (arith, e))))
written_number-parse (c ∷ cs) r h other = by_sign c cs r (c == 45) h other refl
