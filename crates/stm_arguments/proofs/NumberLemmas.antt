-- Which numbers a text spells.
use Rattle.std.proofs.Common.{◌≡◌, ◌^◌, ◌<◌, ◌≤◌, ℕ, List, Option, Some, None, IfNone, sym, subst}
use Rattle.std.specs.Str.Parse.{IsNumeral, digits_value, without_leading_plus}
use Rattle.clap.specs.Words.{IsUnsignedIn}

-- a text that spells no number of 64 bits spells none from one to another
pub no_number : (low high : ℕ) (text : List ℕ) → (IsNumeral 10 (without_leading_plus text) × (digits_value 10 (without_leading_plus text) < 2 ^ 64) → ⊥)
    → IsUnsignedIn low high text → ⊥
no_number low high text not is = not (is.0, is.1)

-- nor does one whose number is none of these
pub none_between : (low high : ℕ) (text : List ℕ) (number : ℕ) (taken : Option ℕ) → number ≡ digits_value 10 (without_leading_plus text)
    → IfNone taken ((low ≤ number) × (number ≤ high) → ⊥) → IfNone taken (IsUnsignedIn low high text → ⊥)
none_between low high text number (Some n) is reported = tt
none_between low high text number None is reported = λ range.
    reported (subst (λ (n : ℕ). low ≤ n) (sym is) range.2, subst (λ (n : ℕ). n ≤ high) (sym is) range.3)
