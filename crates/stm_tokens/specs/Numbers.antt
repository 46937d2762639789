-- Numbers: `0`, or a digit from 1 to 9 and then digits.
use Rattle.std.specs.Prelude.{ℕ, ◌+◌, ◌-◌, ◌*◌, List, [], ◌∷◌, nat_eq, nat_lt, if◌then◌else◌}
use Rattle.stm_tokens.specs.declared.runs.Run.TheVariants.{Digits}
use Rattle.stm_tokens.specs.Runs.{run}

-- the value with one more digit; all of more than 19 digits are the same, out of every range
abbrev pub next_value : ℕ → ℕ → ℕ
next_value value digit =
    if nat_lt 999999999999999999 value then 9999999999999999999 else 10 * value + (digit - 48)

abbrev pub value_from : ℕ → List ℕ → ℕ
value_from value [] = value
value_from value (d ∷ ds) = value_from (next_value value d) ds

-- how many bytes at the start are a number
abbrev pub number_length : List ℕ → ℕ
number_length [] = 0
number_length (b ∷ bs) = if nat_eq b 48 then 1 else run Digits (b ∷ bs)
