-- What a program computes with its values. Each of these gives a result, or the fault that ends the program.
use Rattle.std.specs.Prelude.{ℕ, ◌+◌, ◌^◌, Bool, true, false, ◌&&◌, nat_lt, nat_le, nat_eq, ◌==◌, List, [], ◌∷◌, ◌++◌, length, ℤ, pos, negsuc, ◌+ℤ◌}
use Rattle.std.specs.Prelude.{◌-ℤ◌, ◌*ℤ◌, neg_ℤ, int_div, int_rem, int_lt, bytes_eq, if◌then◌else◌, Result, Ok, Err}
use Rattle.std.specs.Ordering.{nat_cmp}
use Rattle.std.specs.Cmp.Lexicographic.{slice_cmp}
use Rattle.std.specs.Fmt.{signed_decimal}
use Rattle.std.specs.Str.{all_ascii_digits}
use Rattle.std.specs.Str.Parse.{digits_value}
use Rattle.stm_program.specs.declared.operator.Operator.{Operator}
use Rattle.stm_program.specs.declared.operator.Operator.TheVariants.{Add, Sub, Mul, Div, Rem}
use Rattle.stm_history.specs.declared.change.Change.{Change}
use Rattle.stm_history.specs.declared.change.Change.TheVariants.{Put, Del}
use Rattle.std.specs.declared.cmp.Ordering.{Ordering}
use Rattle.std.specs.declared.cmp.Ordering.TheVariants.{Less, Equal, Greater}
use Rattle.stm_steps.specs.declared.value.Value.{Value}
use Rattle.stm_steps.specs.declared.value.Value.TheVariants.{Text, Number}
use Rattle.stm_steps.specs.declared.fault.Fault.{Fault}
use Rattle.stm_steps.specs.declared.fault.Fault.TheVariants.{Kind, Overflow, ZeroDivisor, NotANumber, LoopTooLong, TextTooLong, EmptyKey}
use Rattle.stm_program.specs.declared.limits.TheConstants.{MAX_TEXT}

-- the most bytes that a result of `cat` may have
abbrev pub longest_text : ℕ
longest_text = MAX_TEXT

-- ---- kinds ----

-- a text, where a text is expected
unfoldable pub text_in : Value → Result (List ℕ) Fault
text_in (Text t) = Ok t
text_in (Number n) = Err Kind

-- a number, where a number is expected
unfoldable pub number_in : Value → Result ℤ Fault
number_in (Text t) = Err Kind
number_in (Number n) = Ok n

-- a key is a text that is not empty
unfoldable pub key_in : Value → Result (List ℕ) Fault
key_in (Text []) = Err EmptyKey
key_in (Text (c ∷ cs)) = Ok (c ∷ cs)
key_in (Number n) = Err Kind

-- ---- whole numbers ----

-- from -9223372036854775808 to 9223372036854775807
abbrev pub is_in_range : ℤ → Bool
is_in_range (pos n) = nat_lt n (2 ^ 63)
is_in_range (negsuc n) = nat_lt n (2 ^ 63)

-- a number, or this fault where it is out of range
abbrev pub number_or : Fault → ℤ → Result ℤ Fault
number_or fault z = if is_in_range z then Ok z else Err fault

abbrev pub is_zero : ℤ → Bool
is_zero (pos n) = nat_eq n 0
is_zero (negsuc n) = false

-- what an operator gives, of any size: a quotient is truncated towards zero, and a remainder has the sign of the left number; a zero divisor is
-- checked first, and a remainder whose quotient is out of range is refused with it
abbrev pub given_by : Operator → ℤ → ℤ → Result ℤ Fault
given_by Add a b = Ok (a +ℤ b)
given_by Sub a b = Ok (a -ℤ b)
given_by Mul a b = Ok (a *ℤ b)
given_by Div a b = if is_zero b then Err ZeroDivisor else Ok (int_div a b)
given_by Rem a b = if is_zero b then Err ZeroDivisor else (if is_in_range (int_div a b) then Ok (int_rem a b) else Err Overflow)

abbrev pub in_range_of : Result ℤ Fault → Result ℤ Fault
in_range_of (Ok z) = number_or Overflow z
in_range_of (Err fault) = Err fault

-- that, in range
unfoldable pub computed : Operator → ℤ → ℤ → Result ℤ Fault
computed operator a b = in_range_of (given_by operator a b)

-- a result that is a number or a text, as a value
abbrev pub as_number : Result ℤ Fault → Result Value Fault
as_number (Ok z) = Ok (Number z)
as_number (Err fault) = Err fault

abbrev pub as_text : Result (List ℕ) Fault → Result Value Fault
as_text (Ok t) = Ok (Text t)
as_text (Err fault) = Err fault

-- both sides are numbers
unfoldable pub arithmetic : Operator → Value → Value → Result Value Fault
arithmetic operator (Number a) (Number b) = as_number (computed operator a b)
arithmetic operator (Number a) (Text u) = Err Kind
arithmetic operator (Text t) y = Err Kind

-- ---- texts ----

-- two texts, one after the other
unfoldable pub concatenated : Value → Value → Result Value Fault
concatenated (Text t) (Text u) = if nat_le (length t + length u) longest_text then Ok (Text (t ++ u)) else Err TextTooLong
concatenated (Text t) (Number b) = Err Kind
concatenated (Number a) y = Err Kind

-- a number as decimal text: `-` before a negative one, and no leading zeros
unfoldable pub text_of : Value → Result Value Fault
text_of (Number z) = Ok (Text (signed_decimal z))
text_of (Text t) = Err Kind

-- one digit or more, and nothing else; zeros may lead
abbrev pub is_numeral : List ℕ → Bool
is_numeral digits = nat_lt 0 (length digits) && all_ascii_digits digits

-- the number that digits spell, with a sign
abbrev pub signed_number : (ℤ → ℤ) → List ℕ → Result ℤ Fault
signed_number sign digits = if is_numeral digits then number_or NotANumber (sign (pos (digits_value 10 digits))) else Err NotANumber

-- the number that a text spells: an optional `-` (45 in ASCII), then digits
unfoldable pub written_number : List ℕ → Result ℤ Fault
written_number [] = Err NotANumber
written_number (c ∷ cs) = if c == 45 then signed_number neg_ℤ cs else signed_number (λ z. z) (c ∷ cs)

unfoldable pub num_of : Value → Result Value Fault
num_of (Text t) = as_number (written_number t)
num_of (Number z) = Err Kind

-- ---- comparisons ----

abbrev pub is_less : Ordering → Bool
is_less Less = true
is_less Equal = false
is_less Greater = false

-- two numbers or two texts
unfoldable pub equal : Value → Value → Result Bool Fault
equal (Text t) (Text u) = Ok (bytes_eq t u)
equal (Text t) (Number b) = Err Kind
equal (Number a) (Text u) = Err Kind
equal (Number a) (Number b) = Ok (int_eq a b)
  where
    int_eq : ℤ → ℤ → Bool
    int_eq (pos m) (pos n) = nat_eq m n
    int_eq (pos m) (negsuc n) = false
    int_eq (negsuc m) (pos n) = false
    int_eq (negsuc m) (negsuc n) = nat_eq m n

-- numbers by size, texts by bytes
unfoldable pub less : Value → Value → Result Bool Fault
less (Text t) (Text u) = Ok (is_less (slice_cmp nat_cmp t u))
less (Text t) (Number b) = Err Kind
less (Number a) (Text u) = Err Kind
less (Number a) (Number b) = Ok (int_lt a b)

-- ---- statements ----

-- a put of a key: the kinds of key and value are checked first, then whether the key is empty
unfoldable pub put_of : Value → Value → ℕ → Result Change Fault
put_of (Number a) y lease = Err Kind
put_of (Text t) (Number b) lease = Err Kind
put_of (Text []) (Text u) lease = Err EmptyKey
put_of (Text (c ∷ cs)) (Text u) lease = Ok (Put (c ∷ cs) u lease)

unfoldable pub del_of : Value → Result Change Fault
del_of (Number a) = Err Kind
del_of (Text []) = Err EmptyKey
del_of (Text (c ∷ cs)) = Ok (Del (c ∷ cs))

-- the number of turns of a loop: none for a count of 0 or below, and a fault for one above the loop's limit
unfoldable pub turns_of : Value → ℕ → Result ℕ Fault
turns_of (Text t) limit = Err Kind
turns_of (Number (pos n)) limit = if nat_le n limit then Ok n else Err LoopTooLong
turns_of (Number (negsuc n)) limit = Ok 0
