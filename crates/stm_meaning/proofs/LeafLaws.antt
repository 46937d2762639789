-- What the steps of a run come to.
use Rattle.std.proofs.Common.{◌≡◌, ℕ, suc, ◌<◌, ◌^◌, true, List, length, refl, ◌∙◌, ap, arith}
use Rattle.std.specs.Prelude.{Ok, Err, ℤ, pos, negsuc, neg_ℤ, if◌then◌else◌}
use Rattle.std.specs.Fmt.{decimal, signed_decimal}
use Rattle.std.specs.Str.{all_ascii_digits}
use Rattle.std.specs.Str.Parse.{digits_value}
use Rattle.std.proofs.lemmas.Fmt.{digits_decimal, digits_value-decimal, decimal_nonempty}
use Rattle.std.proofs.lemmas.Bool.Decides.{nat_tests}
use Rattle.std.proofs.lemmas.Grind.{common_steps}
use Rattle.std.proofs.lemmas.Str.Parse.{IsNumeralModel, numerals_by_value, tells_all_ascii_digits}
use Rattle.stm_steps.specs.declared.fault.Fault.TheVariants.{NotANumber}
use Rattle.stm_steps.specs.Values.{key_in, put_of, del_of, text_of, num_of, as_number, is_in_range, is_numeral, number_or, signed_number, written_number}
use Rattle.stm_steps.specs.Meaning.{get_key, rev_key}
use Rattle.stm_meaning.specs.Leaves.{trace_after_get, reads_after_get, trace_after_rev, reads_after_rev, GetGives, RevGives, TextsAreKeys, NumbersAreReadBack}

-- ---- look-ups

pub get_gives : GetGives
unfolding get_key trace_after_get reads_after_get
get_gives look knows key s = grind (arith, nat_tests)

pub rev_gives : RevGives
unfolding rev_key trace_after_rev reads_after_rev
rev_gives look knows key s = grind (arith, nat_tests)

-- ---- keys

pub texts_are_keys : TextsAreKeys
unfolding key_in put_of del_of
texts_are_keys h1 value lease long = grind (arith, nat_tests)

-- ---- numbers

abbrev own : IsNumeralModel (λ ds. all_ascii_digits ds ≡ true) (digits_value 10)
own = numerals_by_value (λ ds. all_ascii_digits ds ≡ true) tells_all_ascii_digits

-- the text of a natural number is a numeral
numeral : (n : ℕ) → n < 2 ^ 64 → is_numeral (decimal n) ≡ true
numeral n small =
    let digits : all_ascii_digits (decimal n) ≡ true = digits_decimal own n small in
    let long : 0 < length (decimal n) = decimal_nonempty n small in
    grind (arith, common_steps)

read_back : (sign : ℤ → ℤ) (n : ℕ) (z : ℤ) → n < 2 ^ 64 → sign (pos n) ≡ z → is_in_range z ≡ true → signed_number sign (decimal n) ≡ Ok z
read_back sign n z small signed fits =
    ap (λ b. if b then number_or NotANumber (sign (pos (digits_value 10 (decimal n)))) else Err NotANumber) (numeral n small)
    ∙ ap (λ (m : ℕ). number_or NotANumber (sign (pos m))) (digits_value-decimal own n small)
    ∙ ap (λ y. number_or NotANumber y) signed
    ∙ ap (λ b. if b then Ok z else Err NotANumber) fits

unsigned : (ds : List ℕ) → 0 < length ds → all_ascii_digits ds ≡ true → written_number ds ≡ signed_number (λ z. z) ds
unfolding written_number
unsigned ds long digits = grind (arith, nat_tests)

written : (z : ℤ) → is_in_range z ≡ true → written_number (signed_decimal z) ≡ Ok z
unfolding written_number
written (pos n) fits =
    let small : n < 2 ^ 64 = grind (arith, common_steps) in
    unsigned (decimal n) (decimal_nonempty n small) (digits_decimal own n small) ∙ read_back (λ z. z) n (pos n) small refl fits
written (negsuc n) fits =
    let small : suc n < 2 ^ 64 = grind (arith, common_steps) in
    read_back neg_ℤ (suc n) (negsuc n) small refl fits

pub numbers_are_read_back : NumbersAreReadBack
unfolding text_of num_of
numbers_are_read_back z fits = (refl, ap as_number (written z fits))
