-- A key that is read as it is now.
use Rattle.std.proofs.Common.{◌≡◌, ℕ, Bool, true, false, cond, List, length, Option, Ok, Err, subst, ap, arith}
use Rattle.std.specs.Prelude.{nat_eq, nat_lt}
use Rattle.stm_history.specs.declared.key_state.KeyState.{KeyState}
use Rattle.stm_history.specs.declared.key_state.ReadAnswer.{ReadAnswer}
use Rattle.stm_history.specs.History.{History, now, key_at, key_now}
use Rattle.stm_history.proofs.HistoryLaws.{last_revision_is_now}
use Rattle.stm_outcome.specs.declared.refusal.Refusal.TheVariants.{EmptyKey, FutureRevision}
use Rattle.stm_txn.specs.Standing.{Standing}
use Rattle.stm_journal.specs.Fetched.{fetched, fetch_reported, read_reported}
use Rattle.stm_driving.specs.AtOnce.{IsReadNow}

read_by : (s : Standing) (key : List ℕ) (a : ReadAnswer) (empty future : Bool)
    → cond empty (Err EmptyKey) (cond future (Err FutureRevision) (fetch_reported s key 0)) ≡ Ok a → IsReadNow s.history a
read_by s key a true future is = absurd (cc (is))
read_by s key a false true is = absurd (cc (is))
read_by s key a false false is =
    let h : History = s.history in
    let same : fetched h key 0 ≡ a = cc (is) in
    let last : key_at h key (now h) ≡ key_now h key = last_revision_is_now h key (now h) (omega arith) in
    subst (IsReadNow h) same (ap (λ (k : Option KeyState). (let x : ReadAnswer = record { key = key; kv = k; of_rev = now h; revision = now h } in x)) last)

pub read_is_now : (s : Standing) (key : List ℕ) (a : ReadAnswer) → read_reported s key 0 ≡ Ok a → IsReadNow s.history a
read_is_now s key a is = read_by s key a (nat_eq (length key) 0) (nat_lt (now s.history) 0) is
