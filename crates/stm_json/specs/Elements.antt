-- Looking into data: the word and the elements of an array, and numbers in a range.
use Rattle.std.specs.Prelude.{◌≡◌, ℕ, ◌^◌, ℤ, pos, negsuc, List, Bool, Option, Some, None, Ok, is_some, option_map, option_and_then, if◌then◌else◌, nat_le}
use Rattle.std.specs.Prelude.{nat_lt}
use Rattle.serde_json.specs.Data.{Num, Data, number, Items, no_items, item}
use Rattle.serde_json.specs.Find.{as_str, as_array, as_number, as_integer, as_u64, as_i64}
use Rattle.stm_json.specs.declared.cause.Cause.TheVariants.{Shape, Range}
use Rattle.stm_json.specs.Outcome.{Outcome, bad, ◌>>=◌}

abbrev pub first_word : Items → Option (List ℕ × Items)
first_word no_items = None
first_word (item d ds) = option_map (λ w. (w, ds)) (as_str d)

-- the first word of an array, and the elements after it
abbrev pub worded : Data → Option (List ℕ × Items)
worded d = option_and_then first_word (as_array d)

-- the elements, where there are exactly that many

abbrev pub one_of : Items → Option Data
one_of no_items = None
one_of (item a no_items) = Some a
one_of (item a (item b ds)) = None

abbrev pub two_of : Items → Option (Data × Data)
two_of no_items = None
two_of (item a ds) = option_map (λ b. (a, b)) (one_of ds)

abbrev pub three_of : Items → Option (Data × Data × Data)
three_of no_items = None
three_of (item a ds) = option_map (λ p. (a, p.0, p.1)) (two_of ds)

abbrev pub four_of : Items → Option (Data × Data × Data × Data)
four_of no_items = None
four_of (item a ds) = option_map (λ p. (a, p.0, p.1, p.2)) (three_of ds)

-- ---- numbers

-- data are a whole number
abbrev pub SpellsNumber : Data → ℤ → Type 0
SpellsNumber d z = (n : Num) × (d ≡ number n) × (as_integer n ≡ Some z)

-- from -9223372036854775808 to 9223372036854775807
abbrev pub is_64_bit : ℤ → Bool
is_64_bit (pos n) = nat_lt n (2 ^ 63)
is_64_bit (negsuc n) = nat_lt n (2 ^ 63)

abbrev pub in_64_bits : Option ℤ → Bool → Outcome ℤ
in_64_bits (Some z) is_whole = if is_64_bit z then Ok z else bad Range
in_64_bits None is_whole = if is_whole then bad Range else bad Shape

-- a whole number of 64 bits with a sign
unfoldable pub whole_number : Data → Outcome ℤ
whole_number d = in_64_bits (option_and_then as_i64 (as_number d)) (is_some (option_and_then as_u64 (as_number d)))

abbrev pub in_range : ℕ → ℤ → Outcome ℕ
in_range limit (pos n) = if nat_le n limit then Ok n else bad Range
in_range limit (negsuc n) = bad Range

-- a whole number from 0 to a limit, which is itself of 64 bits with a sign
unfoldable pub number_up_to : ℕ → Data → Outcome ℕ
number_up_to limit d = whole_number d >>= in_range limit

abbrev pub from_least : ℕ → ℕ → Outcome ℕ
from_least least n = if nat_le least n then Ok n else bad Range

-- a whole number from a least to a most
unfoldable pub number_in : ℕ → ℕ → Data → Outcome ℕ
number_in least most d = number_up_to most d >>= from_least least
