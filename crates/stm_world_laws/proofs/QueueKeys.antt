-- The keys of a queue are apart, and how their counts are spelled.
use Rattle.std.proofs.Common.{◌≡◌, ◌≢◌, ℕ, ◌^◌, ◌<◌, List, ◌++◌, length, true, false, Ok, Err, refl, sym, ◌∙◌, ap, append_assoc, arith, codes}
use Rattle.std.specs.Prelude.{ℤ, pos, bytes_eq, Result}
use Rattle.std.specs.Fmt.{decimal}
use Rattle.std.proofs.lemmas.Bool.{lt-ltb, Decides.nat_tests}
use Rattle.std.proofs.lemmas.List.{append_cancel_left}
use Rattle.std.proofs.lemmas.Fmt.{decimal_is_IsNumeral}
use Rattle.stm_program.proofs.WriteLemmas.{bytes_eq-same, bytes_eq-self}
use Rattle.stm_steps.specs.declared.fault.Fault.{Fault}
use Rattle.stm_steps.specs.declared.fault.Fault.TheVariants.{NotANumber}
use Rattle.stm_steps.specs.Values.{written_number, is_in_range}
use Rattle.stm_recipes.specs.Names.{head_key, tail_key, items_key}
use Rattle.stm_recipes.specs.Alone.{or_zero}
use Rattle.stm_world_laws.specs.Queues.{place_of}
use Rattle.stm_world_laws.proofs.AccountNumbers.{read_back}

pub small_in_range : (n : ℕ) → n < 2 ^ 63 → is_in_range (pos n) ≡ true
small_in_range n small = lt-ltb n (2 ^ 63) small

pub decimal_read : (n : ℕ) → n < 2 ^ 63 → written_number (decimal n) ≡ Ok (pos n)
decimal_read n small = read_back (pos n) (small_in_range n small)

same_number_read : (m n : ℕ) (r : Result ℤ Fault) → r ≡ Ok (pos m) → r ≡ Ok (pos n) → m ≡ n
same_number_read m n r one other = let same : Ok (pos m) ≡ Ok (pos n) = sym one ∙ other in cc

decimal_same : (m n : ℕ) → m < 2 ^ 63 → n < 2 ^ 63 → decimal m ≡ decimal n → m ≡ n
decimal_same m n small other same = same_number_read m n (written_number (decimal n)) (ap written_number (sym same) ∙ decimal_read m small) (decimal_read n other)

tail_no_number : written_number (codes "tail") ≡ Err NotANumber
unfolding written_number
tail_no_number = refl

head_no_number : written_number (codes "head") ≡ Err NotANumber
unfolding written_number
head_no_number = refl

no_number_read : (n : ℕ) (t : List ℕ) → n < 2 ^ 63 → written_number t ≡ Err NotANumber → decimal n ≢ t
no_number_read n t small none same = let both : Ok (pos n) ≡ Err NotANumber = sym (decimal_read n small) ∙ ap written_number same ∙ none in absurd (cc)

-- ---- keys

tail_is : (queue : List ℕ) → tail_key queue ≡ items_key queue ++ codes "tail"
tail_is queue = sym (append_assoc queue (codes "/") (codes "tail"))

head_is : (queue : List ℕ) → head_key queue ≡ items_key queue ++ codes "head"
head_is queue = sym (append_assoc queue (codes "/") (codes "head"))

pub keys_differ : (a b : List ℕ) → a ≢ b → bytes_eq a b ≡ false
keys_differ a b ne = grind (arith, nat_tests, bytes_eq-same)

pub tail_head_apart : (queue : List ℕ) → bytes_eq (tail_key queue) (head_key queue) ≡ false
tail_head_apart queue = grind (arith, nat_tests, keys_differ, append_cancel_left, tail_is, head_is)

pub head_tail_apart : (queue : List ℕ) → bytes_eq (head_key queue) (tail_key queue) ≡ false
head_tail_apart queue = grind (arith, nat_tests, keys_differ, append_cancel_left, head_is, tail_is)

pub tail_place_apart : (queue : List ℕ) (n : ℕ) → n < 2 ^ 63 → bytes_eq (tail_key queue) (place_of queue n) ≡ false
tail_place_apart queue n small = grind (arith, nat_tests, keys_differ, no_number_read, tail_no_number, append_cancel_left, tail_is)

pub head_place_apart : (queue : List ℕ) (n : ℕ) → n < 2 ^ 63 → bytes_eq (head_key queue) (place_of queue n) ≡ false
head_place_apart queue n small = grind (arith, nat_tests, keys_differ, no_number_read, head_no_number, append_cancel_left, head_is)

pub place_tail_apart : (queue : List ℕ) (n : ℕ) → n < 2 ^ 63 → bytes_eq (place_of queue n) (tail_key queue) ≡ false
place_tail_apart queue n small = grind (arith, nat_tests, keys_differ, no_number_read, tail_no_number, append_cancel_left, tail_is)

pub place_head_apart : (queue : List ℕ) (n : ℕ) → n < 2 ^ 63 → bytes_eq (place_of queue n) (head_key queue) ≡ false
place_head_apart queue n small = grind (arith, nat_tests, keys_differ, no_number_read, head_no_number, append_cancel_left, head_is)

pub places_apart : (queue : List ℕ) (m n : ℕ) → m < 2 ^ 63 → n < 2 ^ 63 → m ≢ n → bytes_eq (place_of queue m) (place_of queue n) ≡ false
places_apart queue m n small other ne = grind (arith, nat_tests, keys_differ, decimal_same, append_cancel_left)

pub decimals_apart : (m n : ℕ) → m < 2 ^ 63 → n < 2 ^ 63 → bytes_eq (decimal m) (decimal n) ≡ false → m ≢ n
decimals_apart m n small other apart same = grind (arith, nat_tests, bytes_eq-self)

-- ---- counts

or_zero_long : (t : List ℕ) → 0 < length t → or_zero t ≡ t
or_zero_long t long = grind (arith, nat_tests)

pub or_zero_decimal : (n : ℕ) → n < 2 ^ 63 → or_zero (decimal n) ≡ decimal n
or_zero_decimal n small = or_zero_long (decimal n) (decimal_is_IsNumeral n (omega arith)).0.0
