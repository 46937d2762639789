-- Accounts over entries: money that only moves, and grows by what is deposited.
--
-- The Go package `clientv3/concurrency`, "STM", for what a committed program does. The recipes are our own.
use Rattle.std.specs.Prelude.{◌≡◌, ◌⊎◌, ℕ, ◌<◌, ℤ, pos, ◌+ℤ◌, bytes_eq, false, List, [], ◌∷◌, length, Option, None, Some}
use Rattle.std.specs.List.{AllByRecursion}
use Rattle.stm_history.specs.declared.key_state.KeyState.{KeyState}
use Rattle.stm_history.specs.History.{History, key_now, value_of}
use Rattle.stm_steps.specs.Values.{written_number}
use Rattle.stm_entries.specs.declared.entry.Entry.{Entry}
use Rattle.stm_entries.specs.Replayed.{Replayed}
use Rattle.stm_entries.specs.Replay.{replay, replay_entry}
use Rattle.stm_entries.specs.Legal.{AreLegal}
use Rattle.stm_journal.specs.StateOf.{IsStateOf}
use Rattle.stm_steps.specs.declared.state.StateEntry.{StateEntry}
use Rattle.stm_recipes.specs.Alone.{or_zero}
use Rattle.stm_recipes.specs.Accounts.{transfer_program, deposit_program, written_or_none, sum_of, total_of}
use Rattle.stm_world_laws.specs.Commits.{IsCommitOf}

-- the number of an account that is present and whose value is one
abbrev pub number_of : Option KeyState → Option ℤ
number_of None = None
number_of (Some s) = written_or_none (written_number s.value)

abbrev pub balance_now : History → List ℕ → Option ℤ
balance_now h account = number_of (key_now h account)

-- the sum of what accounts have; none where one of them has no number
abbrev pub sum_over : (List ℕ → Option ℤ) → List (List ℕ) → Option ℤ
sum_over balance [] = Some (pos 0)
sum_over balance (account ∷ accounts) = sum_of (balance account) (sum_over balance accounts)

-- what accounts have in all, now
abbrev pub total_now : History → List (List ℕ) → Option ℤ
total_now h accounts = sum_over (balance_now h) accounts

-- what an account counts as where a deposit adds to it: one that is absent, or has an empty value, counts as 0
abbrev pub counted : Option KeyState → Option ℤ
counted s = written_or_none (written_number (or_zero (value_of s)))

-- what accounts have in all, where an absent one counts as 0
abbrev pub counted_total : History → List (List ℕ) → Option ℤ
counted_total h accounts = sum_over (λ account. counted (key_now h account)) accounts

-- ---- accounts

-- each account stands once, and has a name
abbrev pub AreAccounts : List (List ℕ) → Type 0
AreAccounts [] = Unit {0}
AreAccounts (account ∷ accounts) =
    (0 < length account) × AllByRecursion (λ other. bytes_eq account other ≡ false) accounts × AreAccounts accounts

abbrev pub IsAmong : List ℕ → List (List ℕ) → Type 0
IsAmong account [] = ⊥
IsAmong account (other ∷ accounts) = (other ≡ account) ⊎ IsAmong account accounts

-- ---- entries

-- a committed transfer among these accounts
pub record IsTransfer (accounts : List (List ℕ)) (e : Entry) : Type 0 where
  pub from : List ℕ
  pub to : List ℕ
  pub amount : ℕ
  pub paying : IsAmong from accounts
  pub paid : IsAmong to accounts
  pub commits : IsCommitOf (transfer_program from to amount) e

-- a committed deposit to one of these accounts
pub record IsDeposit (accounts : List (List ℕ)) (e : Entry) : Type 0 where
  pub account : List ℕ
  pub amount : ℕ
  pub among : IsAmong account accounts
  pub commits : IsCommitOf (deposit_program account amount) e

-- an entry that leaves each account as it is
abbrev pub LeavesAccounts : List (List ℕ) → Entry → Replayed → Type 0
LeavesAccounts accounts e r = AllByRecursion (λ account. key_now (replay_entry e r).history account ≡ key_now r.history account) accounts

-- what an entry may do to the accounts
pub data IsOfAccounts (accounts : List (List ℕ)) (e : Entry) (r : Replayed) : Type 0 where
  Transfers : IsTransfer accounts e → IsOfAccounts accounts e r
  Deposits : IsDeposit accounts e → IsOfAccounts accounts e r
  Leaves : LeavesAccounts accounts e r → IsOfAccounts accounts e r

-- each of these entries, at its point, is a transfer, or a deposit, or leaves the accounts as they are
abbrev pub AreOfAccounts : List (List ℕ) → List Entry → Replayed → Type 0
AreOfAccounts accounts [] r = Unit {0}
AreOfAccounts accounts (e ∷ es) r = IsOfAccounts accounts e r × AreOfAccounts accounts es (replay_entry e r)

-- what an entry adds to the accounts
abbrev pub amount_of : (accounts : List (List ℕ)) (e : Entry) (r : Replayed) → IsOfAccounts accounts e r → ℕ
amount_of accounts e r (Transfers transfer) = 0
amount_of accounts e r (Deposits deposit) = deposit.amount
amount_of accounts e r (Leaves leaves) = 0

-- the sum of the deposits
abbrev pub deposits_of : (accounts : List (List ℕ)) (es : List Entry) (r : Replayed) → AreOfAccounts accounts es r → ℤ
deposits_of accounts [] r of = pos 0
deposits_of accounts (e ∷ es) r of = pos (amount_of accounts e r of.0) +ℤ deposits_of accounts es (replay_entry e r) of.1

-- ---- the law

-- What accounts have in all grows by the deposits, and by nothing else, whatever happens to other keys; and it is the total of a state.
pub record TotalsGrowByDeposits : Type 0 where
  pub grows : (accounts : List (List ℕ)) (es : List Entry) (r : Replayed) (total : ℤ) → AreAccounts accounts → AreLegal es r
      → (of : AreOfAccounts accounts es r) → total_now r.history accounts ≡ Some total
      → total_now (replay es r).history accounts ≡ Some (total +ℤ deposits_of accounts es r of)
  pub is_total : (h : History) (entries : List StateEntry) (accounts : List (List ℕ)) → IsStateOf h entries
      → total_of entries accounts ≡ total_now h accounts

-- It is so, too, where an absent account counts as 0: so also of accounts that the deposits make. Where each has a number, this is the total.
pub record CountedTotals : Type 0 where
  pub grow : (accounts : List (List ℕ)) (es : List Entry) (r : Replayed) (total : ℤ) → AreAccounts accounts → AreLegal es r
      → (of : AreOfAccounts accounts es r) → counted_total r.history accounts ≡ Some total
      → counted_total (replay es r).history accounts ≡ Some (total +ℤ deposits_of accounts es r of)
  pub are_totals : (h : History) (accounts : List (List ℕ)) (total : ℤ) → total_now h accounts ≡ Some total → counted_total h accounts ≡ Some total
