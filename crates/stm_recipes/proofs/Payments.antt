-- Transfers that can be paid, by what the accounts hold.
use Rattle.std.proofs.Common.{◌≡◌, ℕ, Bool, true, false, cond, List, [], ◌∷◌, Some, refl, ◌∙◌, ap, arith}
use Rattle.std.specs.Prelude.{ℤ, pos, ◌+ℤ◌, ◌-ℤ◌, Result, Ok, Err, codes, bytes_eq, int_lt, if◌then◌else◌, None}
use Rattle.std.specs.Option.{option_map_or}
use Rattle.std.specs.Fmt.{signed_decimal}
use Rattle.std.proofs.lemmas.Int.{ints}
use Rattle.stm_history.specs.History.{value_written}
use Rattle.stm_program.specs.Writes.{last_write}
use Rattle.stm_history.specs.declared.change.Change.{Change}
use Rattle.stm_history.specs.declared.change.Change.TheVariants.{Put}
use Rattle.stm_program.proofs.WriteLemmas.{bytes_eq-self}
use Rattle.stm_steps.specs.declared.value.Value.TheVariants.{Number}
use Rattle.stm_steps.specs.declared.fault.Fault.{Fault}
use Rattle.stm_steps.specs.declared.fault.Fault.TheVariants.{Overflow}
use Rattle.stm_steps.specs.Values.{written_number, num_of, as_number, is_in_range}
use Rattle.stm_meaning.specs.Leaves.{value_after}
use Rattle.stm_meaning.proofs.LeafLaws.{numbers_are_read_back}
use Rattle.stm_recipes.specs.Alone.{aborted, put_number, put_added, moved, moved_or_refused, transferred, PaysAnother, PaysItself}
use Rattle.stm_recipes.proofs.AccountRuns.{written_in_range, difference_in_range}

-- what a key holds after one put
after_put : (key value other : List ℕ) (values : List ℕ → List ℕ) (b : Bool) → bytes_eq key other ≡ b →
    value_after (Put key value 0 ∷ []) values other ≡ (if b then value else values other)
unfolding last_write
after_put key value other values true e = ap (λ b. option_map_or value_written (cond b (Some (Put key value 0)) None) (values other)) e
after_put key value other values false e = ap (λ b. option_map_or value_written (cond b (Some (Put key value 0)) None) (values other)) e

-- where there is enough, the first account is put less the amount, and the second is looked at after that
paid : (from to : List ℕ) (amount : ℕ) (values : List ℕ → List ℕ) (balance : ℤ) (b : Bool) →
    written_number (values from) ≡ Ok balance → int_lt balance (pos amount) ≡ false → bytes_eq from to ≡ b →
    transferred from to amount values
    ≡ put_added to amount (Put from (signed_decimal (balance -ℤ pos amount)) 0 ∷ [])
    (written_number (if b then signed_decimal (balance -ℤ pos amount) else values to))
paid from to amount values balance b paying above same =
    ap (moved_or_refused from to amount values) paying
    ∙ ap (λ b. if b then aborted (codes "insufficient") else moved from to amount values balance) above
    ∙ ap (λ t. put_added to amount (Put from (signed_decimal (balance -ℤ pos amount)) 0 ∷ []) (written_number t))
    (after_put from (signed_decimal (balance -ℤ pos amount)) to values b same)

-- a sum in range is put
sum_in_range : (key : List ℕ) (amount : ℕ) (writes : List Change) (r : Result ℤ Fault) (number sum : ℤ) → r ≡ Ok number → number +ℤ pos amount ≡ sum →
    is_in_range sum ≡ true → put_added key amount writes r ≡ put_number key writes (Ok sum)
sum_in_range key amount writes r number sum is adds fits =
    ap (put_added key amount writes) is
    ∙ ap (λ z. put_number key writes (if is_in_range z then Ok z else Err Overflow)) adds
    ∙ ap (λ b. put_number key writes (if b then Ok sum else Err Overflow)) fits

pub pays_another : PaysAnother
pays_another from to amount values balance other apart paying receiving above fits =
    paid from to amount values balance false paying above apart
    ∙ sum_in_range to amount (Put from (signed_decimal (balance -ℤ pos amount)) 0 ∷ []) (written_number (values to))
    other (other +ℤ pos amount) receiving refl fits

-- a result that is a number as a value is this number
as_number-is : (r : Result ℤ Fault) (z : ℤ) → as_number r ≡ Ok (Number z) → r ≡ Ok z
as_number-is (Ok y) z e = cc
as_number-is (Err fault) z e = absurd (cc)

read_back : (z : ℤ) → is_in_range z ≡ true → written_number (signed_decimal z) ≡ Ok z
unfolding num_of
read_back z fits = as_number-is (written_number (signed_decimal z)) z (numbers_are_read_back z fits).1

pub pays_itself : PaysItself
pays_itself account amount values balance paying above =
    let fits = written_in_range (values account) balance paying in
    let back : balance -ℤ pos amount +ℤ pos amount ≡ balance = omega (arith, ints) in
    paid account account amount values balance true paying above (bytes_eq-self account)
    ∙ sum_in_range account amount (Put account (signed_decimal (balance -ℤ pos amount)) 0 ∷ []) (written_number (signed_decimal (balance -ℤ pos amount)))
    (balance -ℤ pos amount) balance (read_back (balance -ℤ pos amount) (difference_in_range balance amount fits above)) back fits
