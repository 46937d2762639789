-- How the number of an account is read off its state.
use Rattle.std.proofs.Common.{◌≡◌, ℕ, List, Option, Some, None, true, Ok, ap, arith}
use Rattle.std.specs.Prelude.{ℤ, Result}
use Rattle.std.specs.Fmt.{signed_decimal}
use Rattle.std.proofs.lemmas.Bool.Decides.{nat_tests}
use Rattle.stm_history.specs.declared.key_state.KeyState.{KeyState}
use Rattle.stm_history.specs.History.{value_of as value_now, state_after_put}
use Rattle.stm_steps.specs.declared.fault.Fault.{Fault}
use Rattle.stm_steps.specs.declared.value.Value.TheVariants.{Number}
use Rattle.stm_steps.specs.Values.{written_number, num_of, as_number, is_in_range}
use Rattle.stm_meaning.proofs.LeafLaws.{numbers_are_read_back}
use Rattle.stm_recipes.specs.Accounts.{written_or_none}
use Rattle.stm_recipes.specs.Alone.{or_zero}
use Rattle.stm_world_laws.specs.Accounts.{number_of, counted}

-- ---- numbers as values

as_number-is : (r : Result ℤ Fault) (z : ℤ) → as_number r ≡ Ok (Number z) → r ≡ Ok z
as_number-is r z e = grind (arith, nat_tests)

pub read_back : (z : ℤ) → is_in_range z ≡ true → written_number (signed_decimal z) ≡ Ok z
unfolding num_of
read_back z fits = as_number-is (written_number (signed_decimal z)) z (numbers_are_read_back z fits).1

pub written_is : (r : Result ℤ Fault) (z : ℤ) → written_or_none r ≡ Some z → r ≡ Ok z
written_is r z is = grind (arith, nat_tests)

-- what an account with a number holds
pub number_is : (s : Option KeyState) (z : ℤ) → number_of s ≡ Some z → written_number (value_now s) ≡ Ok z
number_is s z is = grind (arith, nat_tests, written_is)

-- the empty text is no number
pub not_empty : (v : List ℕ) (z : ℤ) → written_number v ≡ Ok z → written_number (or_zero v) ≡ Ok z
unfolding written_number
not_empty v z is = grind (arith, nat_tests)

-- ---- two readings

-- A number that is put is read, as is one that is written, and a deposit adds to what is read.
pub record Reading : Type 0 where
  pub number : Option KeyState → Option ℤ
  pub put : (revision : ℕ) (z : ℤ) (before : Option KeyState) → is_in_range z ≡ true
      → number (Some (state_after_put revision (signed_decimal z) 0 before)) ≡ Some z
  pub written : (s : Option KeyState) (z : ℤ) → written_number (value_now s) ≡ Ok z → number s ≡ Some z
  pub added_to : (s : Option KeyState) (z : ℤ) → number s ≡ Some z → written_number (or_zero (value_now s)) ≡ Ok z

pub put_number : (revision : ℕ) (z : ℤ) (before : Option KeyState) → is_in_range z ≡ true →
    number_of (Some (state_after_put revision (signed_decimal z) 0 before)) ≡ Some z
put_number revision z before fits = grind (arith, nat_tests, read_back)

pub written_is_number : (s : Option KeyState) (z : ℤ) → written_number (value_now s) ≡ Ok z → number_of s ≡ Some z
unfolding written_number
written_is_number s z is = grind (arith, nat_tests)

-- an account has the number that is written
abbrev pub as_written : Reading
as_written = record {
  number = number_of;
  put = put_number;
  written = written_is_number;
  added_to = λ s z is. not_empty (value_now s) z (number_is s z is);
}

pub put_counted : (revision : ℕ) (z : ℤ) (before : Option KeyState) → is_in_range z ≡ true →
    counted (Some (state_after_put revision (signed_decimal z) 0 before)) ≡ Some z
put_counted revision z None fits = ap written_or_none (not_empty (signed_decimal z) z (read_back z fits))
put_counted revision z (Some s) fits = ap written_or_none (not_empty (signed_decimal z) z (read_back z fits))

-- an account that is absent counts as 0
abbrev pub as_counted : Reading
as_counted = record {
  number = counted;
  put = put_counted;
  written = λ s z is. ap written_or_none (not_empty (value_now s) z is);
  added_to = λ s z is. written_is (written_number (or_zero (value_now s))) z is;
}
