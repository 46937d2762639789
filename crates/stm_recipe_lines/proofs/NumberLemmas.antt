-- What `parse` reads of a word is the number that the definition reads.
use Rattle.std.proofs.Common.{◌≡◌, ◌∙◌, ◌^◌, ◌<◌, refl, sym, ap, arith, ℕ, true, List, length, Ok, Err}
use Rattle.std.specs.Prelude.{nat_le}
use Rattle.std.proofs.lemmas.Bool.{ltb-true, leb-true, lt-ltb, le-leb, and_parts, and_from, cond-true, cond-false, cond_both, false_from_ne_true}
use Rattle.std.proofs.lemmas.Str.Parse.{IsNumeralModel, numerals_by_value, tells_all_ascii_digits}
use Rattle.std.specs.Str.{all_ascii_digits}
use Rattle.std.specs.Str.Parse.{IsNumeral, digits_value, without_leading_plus}
use Rattle.stm_program.specs.declared.limits.TheConstants.{MAX_LEASE}
use Rattle.stm_recipe_lines.specs.declared.words.WordsFault.{WordsFault}
use Rattle.stm_recipe_lines.specs.declared.words.WordsFault.TheVariants.{Amount, Lease}
use Rattle.stm_recipe_lines.specs.Reading.{is_numeral, up_to, number_of, amount_in, lease_in}

abbrev own : IsNumeralModel (λ ds. all_ascii_digits ds ≡ true) (digits_value 10)
own = numerals_by_value (λ ds. all_ascii_digits ds ≡ true) tells_all_ascii_digits

-- digits write a number below a power of two
abbrev WritesBelow : ℕ → List ℕ → Type 0
WritesBelow bits digits = IsNumeral 10 digits × (digits_value 10 digits < 2 ^ bits)

number_read : (most : ℕ) (fault : WordsFault) (digits : List ℕ) (n : ℕ) → IsNumeral 10 digits → n ≡ digits_value 10 digits
    → number_of most fault digits ≡ up_to most fault n
number_read most fault digits n numeral is =
    cond-true (is_numeral digits) (up_to most fault (digits_value 10 digits)) (Err fault)
    (and_from _ _ (lt-ltb 0 (length digits) numeral.0) (own.from digits numeral.1))
    ∙ ap (up_to most fault) (sym is)

numeral_of : (digits : List ℕ) → is_numeral digits ≡ true → IsNumeral 10 digits
numeral_of digits is = let parts = and_parts _ _ is in (ltb-true 0 (length digits) parts.0, own.to digits parts.1)

number_unread : (bits most : ℕ) (fault : WordsFault) (digits : List ℕ) → most < 2 ^ bits → (WritesBelow bits digits → ⊥) → number_of most fault digits ≡ Err fault
number_unread bits most fault digits room none =
    let value = digits_value 10 digits in
    cond_both (is_numeral digits) (up_to most fault value) (Err fault) (λ r. r ≡ Err fault)
    (λ is. cond-false _ (Ok value) (Err fault)
    (false_from_ne_true _ (λ (fits : nat_le value most ≡ true). none (numeral_of digits is, omega (arith, leb-true value most fits, room)))))
    (λ is. refl)

-- ---- amounts

pub amount_read : (word : List ℕ) (n : ℕ) → WritesBelow 32 (without_leading_plus word) → n ≡ digits_value 10 (without_leading_plus word) → Ok n ≡ amount_in word
unfolding amount_in
amount_read word n writes is =
    sym (number_read 4294967295 Amount (without_leading_plus word) n writes.0 is
    ∙ cond-true _ (Ok n) (Err Amount) (le-leb n 4294967295 (omega (arith, is, writes.1))))

pub amount_unread : (word : List ℕ) → (WritesBelow 32 (without_leading_plus word) → ⊥) → Err Amount ≡ amount_in word
unfolding amount_in
amount_unread word none = sym (number_unread 32 4294967295 Amount (without_leading_plus word) (omega arith) none)

-- ---- leases

pub lease_read : (word : List ℕ) (n : ℕ) → WritesBelow 64 (without_leading_plus word) → n ≡ digits_value 10 (without_leading_plus word)
    → up_to MAX_LEASE Lease n ≡ lease_in word
unfolding lease_in
lease_read word n writes is = sym (number_read MAX_LEASE Lease (without_leading_plus word) n writes.0 is)

pub lease_unread : (word : List ℕ) → (WritesBelow 64 (without_leading_plus word) → ⊥) → Err Lease ≡ lease_in word
unfolding lease_in
lease_unread word none = sym (number_unread 64 MAX_LEASE Lease (without_leading_plus word) (omega arith) none)
