-- Accounts: keys whose values are numbers. The programs that move and add amounts, each as it would stand in the function that
-- `clientv3/concurrency` has under "STM", and what accounts have in all.
use Rattle.std.specs.Prelude.{ℕ, ℤ, pos, ◌+ℤ◌, List, [], ◌∷◌, codes, Option, None, Some, Result, Ok, Err}
use Rattle.stm_program.specs.Syntax.{Statement, Block, Text, Number, Variable, Get, Arithmetic, TextOf, NumOf, Equal, Less, Set, Put, If, Abort, End, Then}
use Rattle.stm_program.specs.declared.operator.Operator.TheVariants.{Add, Sub}
use Rattle.stm_steps.specs.declared.fault.Fault.{Fault}
use Rattle.stm_steps.specs.declared.state.StateEntry.{StateEntry}
use Rattle.stm_steps.specs.States.{find_entry}
use Rattle.stm_steps.specs.Values.{written_number}

-- ---- transfer

-- what the paying account holds, as a number
abbrev pub read_balance : List ℕ → Statement
read_balance from = Set 0 (NumOf (Get (Text from)))

-- the run ends where that is below the amount
abbrev pub refuse_below : ℕ → Statement
refuse_below amount = If (Less (Variable 0) (Number (pos amount))) (Then (Abort (Text (codes "insufficient"))) End) End

abbrev pub withdraw : List ℕ → ℕ → Statement
withdraw from amount = Put (Text from) (TextOf (Arithmetic Sub (Variable 0) (Number (pos amount)))) 0

-- the paid account is read after the paying one is written, so that one account can be both
abbrev pub pay : List ℕ → ℕ → Statement
pay to amount = Put (Text to) (TextOf (Arithmetic Add (NumOf (Get (Text to))) (Number (pos amount)))) 0

unfoldable pub transfer_program : List ℕ → List ℕ → ℕ → Block
transfer_program from to amount = Then (read_balance from) (Then (refuse_below amount) (Then (withdraw from amount) (Then (pay to amount) End)))

-- ---- deposit

-- what a key holds, as a text
abbrev pub read_text : ℕ → List ℕ → Statement
read_text v key = Set v (Get (Text key))

-- the empty text is replaced by "0"
abbrev pub zero_if_empty : ℕ → Statement
zero_if_empty v = If (Equal (Variable v) (Text [])) (Then (Set v (Text (codes "0"))) End) End

-- the number that was read plus an amount is put as the key's value
abbrev pub put_sum : List ℕ → ℕ → Statement
put_sum key amount = Put (Text key) (TextOf (Arithmetic Add (NumOf (Variable 0)) (Number (pos amount)))) 0

unfoldable pub deposit_program : List ℕ → ℕ → Block
deposit_program account amount = Then (read_text 0 account) (Then (zero_if_empty 0) (Then (put_sum account amount) End))

-- ---- what accounts have in all

abbrev pub written_or_none : Result ℤ Fault → Option ℤ
written_or_none (Ok z) = Some z
written_or_none (Err fault) = None

-- the number of an entry, where there is an entry and its value is a number
abbrev pub balance_of : Option StateEntry → Option ℤ
balance_of None = None
balance_of (Some e) = written_or_none (written_number e.value)

abbrev pub sum_of : Option ℤ → Option ℤ → Option ℤ
sum_of None rest = None
sum_of (Some x) None = None
sum_of (Some x) (Some y) = Some (x +ℤ y)

-- the sum of the accounts' numbers, an account as often as it is named; none where an account is absent or no number
abbrev pub total_of : List StateEntry → List (List ℕ) → Option ℤ
total_of entries [] = Some (pos 0)
total_of entries (account ∷ accounts) = sum_of (balance_of (find_entry account entries)) (total_of entries accounts)
