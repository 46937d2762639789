-- The runs of transfers and deposits.
use Rattle.std.proofs.Common.{◌≡◌, ℕ, ◌<◌, ◌≤◌, ◌^◌, ◌-◌, Bool, true, false, List, [], ◌∷◌, length, replicate, refl, sym, ◌∙◌, ap, arith}
use Rattle.std.specs.Prelude.{ℤ, pos, negsuc, neg_ℤ, ◌-ℤ◌, Result, Ok, Err, codes, nat_lt, int_lt, if◌then◌else◌, ◌==◌}
use Rattle.std.specs.Fmt.{signed_decimal}
use Rattle.std.specs.Str.Parse.{digits_value}
use Rattle.std.proofs.lemmas.Grind.{common_steps}
use Rattle.std.proofs.lemmas.Int.{ints}
use Rattle.stm_program.specs.Syntax.{Block, Text, NumOf, Get, Abort, End, Then}
use Rattle.stm_program.specs.Writes.{last_write}
use Rattle.stm_program.specs.declared.operator.Operator.TheVariants.{Sub}
use Rattle.stm_history.specs.declared.change.Change.TheVariants.{Put as PutWrite}
use Rattle.stm_steps.specs.declared.value.Value.{Value}
use Rattle.stm_steps.specs.declared.value.Value.TheVariants.{Number as NumberValue}
use Rattle.stm_steps.specs.declared.fault.Fault.{Fault}
use Rattle.stm_steps.specs.declared.fault.Fault.TheVariants.{Overflow, NotANumber}
use Rattle.stm_steps.specs.Answer.{Lookup}
use Rattle.stm_steps.specs.Values.{arithmetic, computed, as_number, written_number, signed_number, is_numeral, number_or, is_in_range, less, text_in}
use Rattle.stm_steps.specs.Session.{Session, fresh, with_variable, with_write}
use Rattle.stm_steps.specs.Outcome.{Gives, and_then, given}
use Rattle.stm_meaning.specs.Meaning.{evaluate, holds, branch, run_statement, run_block, run_over}
use Rattle.stm_meaning.specs.Laws.{KnowsEachKey}
use Rattle.stm_meaning.specs.Leaves.{value_in, value_after}
use Rattle.stm_recipes.specs.Accounts.{refuse_below, withdraw, pay, transfer_program, put_sum, deposit_program}
use Rattle.stm_recipes.specs.Alone.{aborted, put_added, or_zero, moved, moved_or_refused, transferred, deposited, TransferAlone, DepositAlone}
use Rattle.stm_recipes.proofs.Steps.{deed_in, reported, does, after_get, number_of_key, number_put, number_is_put, put_of_sum, reported_sum, silent, holding}
use Rattle.stm_recipes.proofs.Steps.{count_read, last_sum}

-- ---- numbers that are read are in range

ok_or : {E : Type 0} → ℤ → Result ℤ E → ℤ
ok_or d (Ok z) = z
ok_or d (Err e) = d

kept_in_range : (b : Bool) (y z : ℤ) → is_in_range y ≡ b → (if b then Ok y else Err NotANumber) ≡ Ok z → is_in_range z ≡ true
unfolding ok_or
kept_in_range true y z fits e = ap is_in_range (sym (ap (ok_or y) e)) ∙ fits
kept_in_range false y z fits e = absurd (cc)

numeral_in_range : (b : Bool) (y z : ℤ) → (if b then number_or NotANumber y else Err NotANumber) ≡ Ok z → is_in_range z ≡ true
numeral_in_range true y z e = kept_in_range (is_in_range y) y z refl e
numeral_in_range false y z e = absurd (cc)

signed_in_range : (b : Bool) (l r : Result ℤ Fault) (z : ℤ) → (l ≡ Ok z → is_in_range z ≡ true) → (r ≡ Ok z → is_in_range z ≡ true) →
    (if b then l else r) ≡ Ok z → is_in_range z ≡ true
signed_in_range true l r z left right e = left e
signed_in_range false l r z left right e = right e

pub written_in_range : (t : List ℕ) (z : ℤ) → written_number t ≡ Ok z → is_in_range z ≡ true
unfolding written_number
written_in_range [] z e = absurd (cc)
written_in_range (c ∷ cs) z e =
    signed_in_range (c == 45) (signed_number neg_ℤ cs) (signed_number (λ y. y) (c ∷ cs)) z
    (λ f. numeral_in_range (is_numeral cs) (neg_ℤ (pos (digits_value 10 cs))) z f)
    (λ f. numeral_in_range (is_numeral (c ∷ cs)) (pos (digits_value 10 (c ∷ cs))) z f) e

-- ---- differences of numbers that are not below are in range

pub difference_in_range : (z : ℤ) (amount : ℕ) → is_in_range z ≡ true → int_lt z (pos amount) ≡ false → is_in_range (z -ℤ pos amount) ≡ true
difference_in_range (pos n) amount fits above =
    let small : n < 2 ^ 63 = grind (arith, common_steps) in
    let order : amount ≤ n = grind (arith, common_steps) in
    let e : pos n -ℤ pos amount ≡ pos (n - amount) = omega (arith, ints) in
    let less : nat_lt (n - amount) (2 ^ 63) ≡ true = grind (arith, common_steps) in
    ap is_in_range e ∙ less
difference_in_range (negsuc n) amount fits above = absurd (cc)

difference : (z : ℤ) (amount : ℕ) → is_in_range z ≡ true → int_lt z (pos amount) ≡ false → computed Sub z (pos amount) ≡ Ok (z -ℤ pos amount)
unfolding computed
difference z amount fits above = ap (λ b. if b then Ok (z -ℤ pos amount) else Err Overflow) (difference_in_range z amount fits above)

-- ---- sessions

-- nothing was emitted, and nothing written
abbrev blank : Session → Session
blank s = record s { output = []; writes = [] }

-- the variables after the first
abbrev others : List Value
others = replicate 15 (NumberValue (pos 0))

-- ---- transfer

module _ (look : Lookup) (knows : KnowsEachKey look) (from to : List ℕ) (amount : ℕ) (long_from : 0 < length from) (long_to : 0 < length to) where
  abbrev paying : Block
  paying = Then (pay to amount) End

  abbrev moving : Block
  moving = Then (withdraw from amount) paying

  abbrev testing : Block
  testing = Then (refuse_below amount) moving

  paid : (s : Session) → reported (run_block look paying (silent s)) ≡ put_added to amount s.writes (written_number (value_after s.writes (value_in look) to))
  unfolding run_block
  paid s =
      ap (λ o. reported (and_then o (λ _. run_block look End)))
      (put_of_sum look to amount (NumOf (Get (Text to))) (written_number (value_after s.writes (value_in look) to)) (silent s)
      (after_get look to (silent s)) long_to
      (number_of_key look knows to (silent s) long_to))
      ∙ reported_sum look to amount (written_number (value_after s.writes (value_in look) to)) (after_get look to (silent s))

  withdrawn : (z : ℤ) (rest : List Value) (s : Session) → is_in_range z ≡ true → int_lt z (pos amount) ≡ false →
      run_statement look (withdraw from amount) (holding (NumberValue z) rest s) ≡ Gives tt
      (with_write (PutWrite from (signed_decimal (z -ℤ pos amount)) 0) (holding (NumberValue z) rest s))
  unfolding run_block evaluate arithmetic
  withdrawn z rest s fits above =
      number_is_put from (computed Sub z (pos amount)) (holding (NumberValue z) rest s) long_from
      ∙ ap (λ r. number_put from r (holding (NumberValue z) rest s)) (difference z amount fits above)

  tested : (b : Bool) (z : ℤ) (rest : List Value) (s : Session) → is_in_range z ≡ true → int_lt z (pos amount) ≡ b →
      reported (and_then (branch (run_block look (Then (Abort (Text (codes "insufficient"))) End)) (run_block look End) b (holding (NumberValue z) rest (blank s)))
      (λ _. run_block look moving)) ≡ (if b then aborted (codes "insufficient") else moved from to amount (value_in look) z)
  unfolding run_block evaluate text_in
  tested true z rest s fits below = refl
  tested false z rest s fits above =
      ap (λ o. reported (and_then o (λ _. run_block look paying))) (withdrawn z rest (blank s) fits above)
      ∙ paid (with_write (PutWrite from (signed_decimal (z -ℤ pos amount)) 0) (holding (NumberValue z) rest (blank s)))

  balance_read : (r : Result ℤ Fault) (x : Value) (rest : List Value) (s : Session) → ((z : ℤ) → r ≡ Ok z → is_in_range z ≡ true) →
      reported (and_then (and_then (given (as_number r) (holding x rest (blank s))) (λ y t. Gives (tt {0}) (with_variable 0 y t))) (λ _. run_block look testing))
      ≡ moved_or_refused from to amount (value_in look) r
  unfolding run_block holds evaluate less
  balance_read (Ok z) x rest s fits = tested (int_lt z (pos amount)) z rest s (fits z refl) refl
  balance_read (Err fault) x rest s fits = refl

  transfer_runs : deed_in (run_over look (transfer_program from to amount)) ≡ transferred from to amount (value_in look)
  unfolding run_over run_block transfer_program fresh last_write
  transfer_runs =
      ap (λ o. reported (and_then (and_then o (λ y t. Gives (tt {0}) (with_variable 0 y t))) (λ _. run_block look testing)))
      (number_of_key look knows from fresh long_from)
      ∙ balance_read (written_number (value_in look from)) (NumberValue (pos 0)) others (after_get look from fresh) (written_in_range (value_in look from))

pub transfer_alone : TransferAlone
transfer_alone look from to amount knows long_from long_to =
    does look (transfer_program from to amount) (transferred from to amount (value_in look))
    (transfer_runs look knows from to amount long_from long_to)

-- ---- deposit

deposit_runs : (look : Lookup) → KnowsEachKey look → (account : List ℕ) (amount : ℕ) → 0 < length account →
    deed_in (run_over look (deposit_program account amount)) ≡ deposited account amount (value_in look)
unfolding run_over deposit_program fresh last_write
deposit_runs look knows account amount long =
    ap reported (count_read look knows account (NumberValue (pos 0)) others fresh (Then (put_sum account amount) End) long)
    ∙ last_sum look account amount (or_zero (value_in look account)) others (after_get look account fresh) long

pub deposit_alone : DepositAlone
deposit_alone look account amount knows long =
    does look (deposit_program account amount) (deposited account amount (value_in look)) (deposit_runs look knows account amount long)
