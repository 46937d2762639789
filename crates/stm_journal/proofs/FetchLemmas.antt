-- What the transaction of a fetch comes to, and what a read does.
use Rattle.std.proofs.Common.{◌≡◌, ◌⊎◌, ℕ, ◌<◌, ◌≤◌, Bool, true, false, cond, List, [], ◌∷◌, length, Option, Some, None, Result, Ok, Err, IsOk}
use Rattle.std.proofs.Common.{refl, ◌∙◌, ap, arith}
use Rattle.std.specs.Prelude.{nat_eq, nat_lt}
use Rattle.std.proofs.lemmas.Bool.{ne_eqb, eq-eqb, lt-ltb, le-ltb, ltb-false, ltb-true, Decides.nat_tests}
use Rattle.stm_history.specs.declared.key_state.KeyState.{KeyState}
use Rattle.stm_history.specs.declared.key_state.ReadAnswer.{ReadAnswer}
use Rattle.stm_history.specs.declared.revisions.TheConstants.{HIGHEST_REVISION}
use Rattle.stm_history.specs.History.{History, now, key_now, key_at}
use Rattle.stm_history.proofs.HistoryLaws.{last_revision_is_now}
use Rattle.stm_keys.specs.Keys.{key_read}
use Rattle.stm_keys.specs.declared.refusal.ReadRefusal.{ReadRefusal}
use Rattle.stm_keys.specs.declared.refusal.ReadRefusal.TheVariants.{FutureRevision as KeysFuture, Compacted as KeysCompacted}
use Rattle.stm_outcome.specs.declared.refusal.Refusal.{Refusal}
use Rattle.stm_outcome.specs.declared.refusal.Refusal.TheVariants.{OutOfMemory, EmptyKey, FutureRevision, Compacted}
use Rattle.stm_outcome.specs.declared.txn.Op.{Op}
use Rattle.stm_outcome.specs.Terms.{is_below_floor}
use Rattle.stm_outcome.specs.Checks.{fault_of}
use Rattle.stm_outcome.specs.Branches.{begun, changes_of_branch, answers_after, branch_refusal}
use Rattle.stm_outcome.specs.Outcome.{Done, unless, finished, branch_outcome, outcome}
use Rattle.stm_outcome.specs.Commits.{read_op}
use Rattle.stm_outcome.specs.Numbers.{ReadFits, StatesFit}
use Rattle.stm_txn.specs.Standing.{Standing, terms_of}
use Rattle.stm_outcome.proofs.Applying.{reads_change_nothing}
use Rattle.stm_journal.specs.ReadRefusals.{cause_read}
use Rattle.stm_journal.specs.Fetched.{fetched, answer_with, read_at, fetch_of, fetch_reported, read_reported, one_read, IsFetch, ReadReturns}

-- ---- the transaction of a read

fault_by : (limit : ℕ) (key : List ℕ) (at : ℕ) (empty : Bool) → 0 < limit → nat_eq (length key) 0 ≡ empty →
    fault_of limit (fetch_of key at) ≡ cond empty (Some EmptyKey) None
fault_by limit key at empty some is = grind (arith, nat_tests, le-ltb)

-- its one operation is refused where the revision is above the counter, and else where it is below the floor
refusal_by : (s : Standing) (key : List ℕ) (at : ℕ) (above below : Bool) → nat_lt (now s.history) at ≡ above → is_below_floor s.floor at ≡ below →
    branch_refusal (terms_of s) (read_op (read_at key at) ∷ []) ≡ cond above (Some FutureRevision) (cond below (Some Compacted) None)
refusal_by s key at above below is under = grind (arith, nat_tests)

-- what a transaction comes to that reads and does nothing else
abbrev pub done_of : Standing → Result ReadAnswer Refusal → Result Done Refusal
done_of s (Ok read) = Ok record { answer = one_read read; history = s.history }
done_of s (Err cause) = Err cause

comes_by : (s : Standing) (key : List ℕ) (at : ℕ) (empty above below : Bool) → 0 < s.limit → nat_eq (length key) 0 ≡ empty →
    nat_lt (now s.history) at ≡ above → is_below_floor s.floor at ≡ below → outcome (terms_of s) (fetch_of key at)
    ≡ done_of s (cond empty (Err EmptyKey) (cond above (Err FutureRevision) (cond below (Err Compacted) (Ok (fetched s.history key at)))))
comes_by s key at true above below some is over under =
    ap (λ (fault : Option Refusal). unless fault (branch_outcome (terms_of s) None (read_op (read_at key at) ∷ [])))
    (fault_by s.limit key at true some is)
comes_by s key at false true below some is over under =
    let ops : List Op = read_op (read_at key at) ∷ [] in
    ap (λ (fault : Option Refusal). unless fault (branch_outcome (terms_of s) None ops)) (fault_by s.limit key at false some is)
    ∙ ap (λ (refusal : Option Refusal). unless refusal (finished s.history None (changes_of_branch s.history ops) (answers_after s.history (begun s.history) ops)))
    (refusal_by s key at true below over under)
comes_by s key at false false true some is over under =
    let ops : List Op = read_op (read_at key at) ∷ [] in
    ap (λ (fault : Option Refusal). unless fault (branch_outcome (terms_of s) None ops)) (fault_by s.limit key at false some is)
    ∙ ap (λ (refusal : Option Refusal). unless refusal (finished s.history None (changes_of_branch s.history ops) (answers_after s.history (begun s.history) ops)))
    (refusal_by s key at false true over under)
comes_by s key at false false false some is over under =
    reads_change_nothing (terms_of s) (fetch_of key at) (read_at key at ∷ []) refl refl (fault_by s.limit key at false some is)
    (ltb-false (now s.history) at over, under, tt)

-- the transaction that reads a key comes to what the read does, in a store that takes one operation
pub read_comes_to : (s : Standing) (key : List ℕ) (at : ℕ) → 0 < s.limit → outcome (terms_of s) (fetch_of key at) ≡ done_of s (read_reported s key at)
read_comes_to s key at some = grind (arith, nat_tests, comes_by)

-- ---- what a read returns

-- by the three tests: its key is empty, its revision is above the counter, it is below the floor
abbrev reported_by : Bool → Bool → Bool → ReadAnswer → Result ReadAnswer Refusal
reported_by empty above below read = cond empty (Err EmptyKey) (cond above (Err FutureRevision) (cond below (Err Compacted) (Ok read)))

by_tests : (s : Standing) (key : List ℕ) (at : ℕ) (empty above below : Bool) → nat_eq (length key) 0 ≡ empty → nat_lt (now s.history) at ≡ above →
    is_below_floor s.floor at ≡ below → read_reported s key at ≡ reported_by empty above below (fetched s.history key at)
by_tests s key at empty above below is over under = grind (arith, nat_tests)

pub reported_empty : (s : Standing) (key : List ℕ) (at : ℕ) → length key ≡ 0 → read_reported s key at ≡ Err EmptyKey
reported_empty s key at none = grind (arith, nat_tests, by_tests, eq-eqb)

is_named : (key : List ℕ) → 0 < length key → nat_eq (length key) 0 ≡ false
is_named key named = ne_eqb (length key) 0 (λ (is : length key ≡ 0). omega (arith, named, is))

-- the refusal of the keys is the store's
pub reported_refused : (s : Standing) (key : List ℕ) (at : ℕ) (refusal : ReadRefusal) → 0 < length key → s.floor ≤ now s.history →
    (refusal ≡ KeysFuture → now s.history < at) → (refusal ≡ KeysCompacted → (0 < at) × (at < s.floor)) → read_reported s key at ≡ Err (cause_read refusal)
reported_refused s key at refusal named reached future compacted = grind (arith, nat_tests, by_tests, is_named, lt-ltb, le-ltb)

-- what the keys have at the revision that is read is what the answer shows
shown_read : (h : History) (key : List ℕ) (at : ℕ) (zero : Bool) → nat_eq at 0 ≡ zero →
    key_at h key (cond zero (now h) at) ≡ cond zero (key_now h key) (key_at h key at)
shown_read h key at zero is = grind (arith, nat_tests, last_revision_is_now)

pub reported_read : (s : Standing) (key : List ℕ) (at : ℕ) (state : Option KeyState) → 0 < length key → at ≤ now s.history →
    ((0 < at) × (at < s.floor) → ⊥) → state ≡ key_read s.history key at → read_reported s key at ≡ Ok (answer_with s.history key at state)
reported_read s key at state named reached above found = grind (arith, nat_tests, by_tests, is_named, le-ltb, shown_read, ltb-true)

-- the answer is made of what was found
pub reported_as : (s : Standing) (h : History) (key : List ℕ) (at : ℕ) (state : Option KeyState) (answer : ReadAnswer) →
    read_reported s key at ≡ Ok (answer_with s.history key at state) → h ≡ s.history → answer ≡ answer_with h key at state → read_reported s key at ≡ Ok answer
reported_as s h key at state answer found same is = grind (arith, nat_tests)

-- ---- numbers

pub fetched_fits : (h : History) (key : List ℕ) (at : ℕ) → now h ≤ HIGHEST_REVISION → at ≤ now h → StatesFit h → ReadFits (fetched h key at)
fetched_fits h key at bounded reached fit = grind (arith, nat_tests)

read_by : (s : Standing) (key : List ℕ) (at : ℕ) (read : ReadAnswer) (empty above below : Bool) → nat_lt (now s.history) at ≡ above →
    reported_by empty above below (fetched s.history key at) ≡ Ok read → (at ≤ now s.history) × (fetched s.history key at ≡ read)
read_by s key at read empty above below over reported = grind (arith, nat_tests, ltb-false)

-- the numbers of a read that is returned fit
pub read_fits : (s : Standing) (key : List ℕ) (at : ℕ) (read : ReadAnswer) → now s.history ≤ HIGHEST_REVISION → StatesFit s.history →
    read_reported s key at ≡ Ok read → ReadFits read
read_fits s key at read bounded fit reported = grind (arith, nat_tests, read_by, fetched_fits)

-- it carries the store's revision
pub read_revision : (s : Standing) (key : List ℕ) (at : ℕ) (read : ReadAnswer) → read_reported s key at ≡ Ok read → read.revision ≡ now s.history
read_revision s key at read reported = grind (arith, nat_tests, read_by)

-- ---- the fetch of a key that can be read

-- where the key is named and the revision reached, a read returns what a fetch does
pub read_is_fetch : (s : Standing) (key : List ℕ) (at : ℕ) → 0 < length key → at ≤ now s.history → read_reported s key at ≡ fetch_reported s key at
read_is_fetch s key at named reached = grind (arith, nat_tests, by_tests, is_named, le-ltb)

pub fetch_of_read : (defined result : Result ReadAnswer Refusal) → ReadReturns defined result → IsFetch defined result
fetch_of_read defined result reported = grind (arith, nat_tests)

-- the exit of a refusal
pub refused_with : (defined result : Result ReadAnswer Refusal) (given cause : Refusal) → result ≡ Err given → given ≡ cause →
    (defined ≡ Err cause) ⊎ ((cause ≡ OutOfMemory) × IsOk defined) → ReadReturns defined result
refused_with defined result given cause is same reported = grind (arith, nat_tests)
