-- Leases that end, with their keys.
use Rattle.std.proofs.lemmas.List.{append-nil}
use Rattle.std.specs.Prelude.{is_ok, bytes_eq, nat_eq, ◌↔◌, ◌⊎◌, ◌&&◌, Contains, Result, Ok, Err, IsOk, IsTrue, OnErr, is_some, IsSome}
use Rattle.std.proofs.Common.{◌≡◌, ℕ, ◌-◌, ◌<◌, zero, suc, Bool, true, false, cond, List, [], ◌∷◌, ◌++◌, length, map, get_or, Option, Some, None, refl, sym}
use Rattle.std.proofs.Common.{◌∙◌, ap, arith, append_assoc, inl, inr}
use Rattle.std.specs.Ordering.{nat_cmp, is_eq, eq_by_cmp}
use Rattle.std.specs.Cmp.Lexicographic.{slice_cmp}
use Rattle.std.specs.Cmp.{nat_cmp_total}
use Rattle.std.specs.FinMap as finmap
use Rattle.std.specs.declared.cmp.Ordering.TheVariants.{Less}
use Rattle.std.proofs.lemmas.Map.Text.{is_eq-slice_cmp}
use Rattle.std.proofs.lemmas.Cmp.{nat_eq_equiv}
use Rattle.std.proofs.lemmas.Bool.Decides.{nat_tests}
use Rattle.stm_history.specs.declared.change.Change.{Change}
use Rattle.stm_history.specs.declared.change.Change.TheVariants.{Del}
use Rattle.stm_history.specs.declared.key_state.KeyState.{KeyState}
use Rattle.stm_history.specs.declared.revisions.TheConstants.{HIGHEST_REVISION}
use Rattle.stm_history.specs.History.{History, now, key_now, add_revision, change_of, after_change, HasDistinctKeys}
use Rattle.stm_history.proofs.HistoryLaws.{one_more_revision}
use Rattle.stm_keys.specs.Keys.{DeletePresent}
use Rattle.stm_leases.specs.LeaseLog.{LogItem, Expire, Term, term_of}
use Rattle.stm_leases.specs.Live.{Live, is_live_in}
use Rattle.stm_leases.specs.DueFirst.{first_due}
use Rattle.stm_leases.specs.AttachedKeys.{IsAscending, AreKeysOf, HasKeys}
use Rattle.stm_leases.specs.Leases.{Leases, IsLive, StandsFor}
use Rattle.stm_leases.specs.declared.errors.LeaseNotFound.{LeaseNotFound}
use Rattle.stm_leases.proofs.DueLaws.{first_due_is_next}
use Rattle.stm_leases.proofs.Tables.{test_number}
use Rattle.stm_outcome.specs.declared.advance.Expired.{Expired}
use Rattle.stm_outcome.specs.declared.refusal.Refusal.{Refusal}
use Rattle.stm_txn.specs.Leasing.{attaching, attached_after, attached_of, lease_now}
use Rattle.stm_txn.specs.LeaseKeys.{keys_of_lease, deletions_of}
use Rattle.stm_outcome.specs.Outcome.{with_changes, is_used_up}
use Rattle.stm_txn.specs.Standing.{Standing, IsRefusalOf, without_lease, ended, Advance, after, expired_in, expire_up_to, expire_all, IsCutShort, with_expiries}
use Rattle.stm_outcome.proofs.Branching.{equal_text, apart_case, apart_back}
use Rattle.stm_txn.proofs.Running.{none_used, all_used}
use Rattle.stm_txn.proofs.Naming.{skipped, rest_ascending, are_keys}

-- a renewal leaves the keys where they are attached
renewed_case : (r : Result (Unit {0}) LeaseNotFound) (old new : Leases) (id at : ℕ) (o : Option Term) → finmap.get old.live id ≡ o →
    (IsOk r ↔ IsLive old id) →
    ((term : Term) → finmap.get old.live id ≡ Some term → new ≡ record old { live = finmap.insert old.live id (record term { renewed = at }) }) →
    OnErr r (new ≡ old) → new.attached ≡ old.attached
renewed_case r old new id at (Some term) is found ok err = ap (λ (s : Leases). s.attached) (ok term is)
renewed_case (Ok u) old new id at None is found ok err = grind (arith, nat_tests)
renewed_case (Err e) old new id at None is found ok err = ap (λ (s : Leases). s.attached) err

pub renewed_attached : (r : Result (Unit {0}) LeaseNotFound) (old new : Leases) (id at : ℕ) → (IsOk r ↔ IsLive old id) →
    ((term : Term) → finmap.get old.live id ≡ Some term → new ≡ record old { live = finmap.insert old.live id (record term { renewed = at }) }) →
    OnErr r (new ≡ old) → new.attached ≡ old.attached
renewed_attached r old new id at found ok err = renewed_case r old new id at (finmap.get old.live id) refl found ok err

pub still_stored : (h : History) (cs : List Change) (key : List ℕ) (before after : Option ℕ) → before ≡ attaching (key_now h key) →
    after ≡ attached_after (change_of key cs) before → after ≡ attaching (key_now (add_revision h cs) key)
still_stored h cs key before after was is = grind (arith, nat_tests, one_more_revision)

-- ascending texts are distinct
less_apart : (a b : List ℕ) → slice_cmp nat_cmp a b ≡ Less → bytes_eq b a ≡ false
less_apart a b less = apart_back a b (sym (is_eq-slice_cmp a b) ∙ ap is_eq less)

below_all : (k : List ℕ) (xs : List (List ℕ)) → IsAscending (k ∷ xs) → change_of k (map Del xs) ≡ None
below_all k [] ascending = refl
below_all k (x ∷ xs) ascending = grind (arith, nat_tests, less_apart, skipped, below_all k xs (skipped k x xs ascending))

distinct_deletions : (keys : List (List ℕ)) → IsAscending keys → HasDistinctKeys (map Del keys)
distinct_deletions [] ascending = tt
distinct_deletions (k ∷ ks) ascending = (below_all k ks ascending, distinct_deletions ks (rest_ascending k ks ascending))

pub deletions_are_distinct : (h : History) (id : ℕ) → HasDistinctKeys (deletions_of h id)
deletions_are_distinct h id = distinct_deletions (keys_of_lease h id) (are_keys h id).ascending

-- a key that is attached to a lease is present
attaching_present : (s : Option KeyState) (id : ℕ) → attaching s ≡ Some id → IsSome s
attaching_present s id is = grind (arith, nat_tests)

present_deletions : (h : History) (id : ℕ) (keys : List (List ℕ)) → ((key : List ℕ) → Contains keys key → lease_now h key ≡ Some id)
    → DeletePresent h (map Del keys)
present_deletions h id [] attach = tt
present_deletions h id (k ∷ ks) attach =
    grind (arith, nat_tests, attaching_present, present_deletions h id ks (λ key has. attach key (suc has.0, omega (arith, has.1), has.2)))

pub deletions_are_present : (h : History) (id : ℕ) → DeletePresent h (deletions_of h id)
deletions_are_present h id = present_deletions h id (keys_of_lease h id) (λ key has. ((are_keys h id).each key).0 has)

-- deletions attach nothing
no_attaches : (keys : List (List ℕ)) → attached_of (map Del keys) ≡ []
no_attaches [] = refl
no_attaches (k ∷ ks) = no_attaches ks

pub attached_of-deletions : (h : History) (id : ℕ) → attached_of (deletions_of h id) ≡ []
attached_of-deletions h id = no_attaches (keys_of_lease h id)

-- a deleted key is among those of the deletions
deleted_key : (keys : List (List ℕ)) (key : List ℕ) (k : ℕ) → change_of key (map Del keys) ≡ None → k < length keys → get_or keys k key ≡ key → ⊥
deleted_key [] key k none within is = omega arith
deleted_key (x ∷ xs) key zero none within is =
    let split : (bytes_eq x key ≡ false) × (change_of key (map Del xs) ≡ None) = apart_case (bytes_eq x key) (Del x) (change_of key (map Del xs)) none in
    let same : bytes_eq x key ≡ true = equal_text x key is in
    absurd (cc)
deleted_key (x ∷ xs) key (suc k) none within is =
    let split : (bytes_eq x key ≡ false) × (change_of key (map Del xs) ≡ None) = apart_case (bytes_eq x key) (Del x) (change_of key (map Del xs)) none in
    deleted_key xs key k split.1 (omega arith) is

deletion_case : (keys : List (List ℕ)) (key : List ℕ) (n : ℕ) (s : Option KeyState) →
    (change_of key (map Del keys) ≡ None) ⊎ (after_change n (change_of key (map Del keys)) s ≡ None)
deletion_case [] key n s = inl refl
deletion_case (x ∷ xs) key n s = grind (arith, nat_tests, deletion_case xs key n s)

-- once its keys are deleted, no key is attached to a lease
gone_case : (h : History) (id : ℕ) (keys : List (List ℕ)) (key : List ℕ) (n : ℕ) → AreKeysOf (lease_now h) id keys →
    (change_of key (map Del keys) ≡ None) ⊎ (after_change n (change_of key (map Del keys)) (key_now h key) ≡ None) →
    attaching (after_change n (change_of key (map Del keys)) (key_now h key)) ≡ Some id → ⊥
gone_case h id keys key n are h7 is = grind (arith, nat_tests, deleted_key)

gone_from : (h : History) (id : ℕ) (keys : List (List ℕ)) (key : List ℕ) → AreKeysOf (lease_now h) id keys →
    lease_now (with_changes h (map Del keys)) key ≡ Some id → ⊥
gone_from h id [] key are is = let has : Contains [] key = (are.each key).1 is in absurd (omega (arith, has.1))
gone_from h id (k ∷ ks) key are is =
    gone_case h id (k ∷ ks) key (now (add_revision h (map Del (k ∷ ks)))) are
    (deletion_case (k ∷ ks) key (now (add_revision h (map Del (k ∷ ks)))) (key_now h key))
    (sym (ap attaching (one_more_revision h (map Del (k ∷ ks)) key)) ∙ is)

pub gone : (h : History) (id : ℕ) (key : List ℕ) → lease_now (with_changes h (deletions_of h id)) key ≡ Some id → ⊥
gone h id key is = gone_from h id (keys_of_lease h id) key (are_keys h id) is

-- a key that is attached to the lease is what uses up the revisions
not_true : (b : Bool) → (b ≡ true → ⊥) → b ≡ false
not_true b never = grind (arith, nat_tests)

stuck_case : (h : History) (id : ℕ) (has : Bool) (keys : List (List ℕ)) → AreKeysOf (lease_now h) id keys → IsTrue has ↔ HasKeys (lease_now h) id →
    (nat_eq (now h) HIGHEST_REVISION && has) ≡ is_used_up h (map Del keys)
stuck_case h id has [] are reports =
    let none : has ≡ false = not_true has (λ is. let key : HasKeys (lease_now h) id = reports.0 is in
    let found : Contains [] key.0 = (are.each key.0).1 key.1 in absurd (omega (arith, found.1))) in
    ap (λ b. nat_eq (now h) HIGHEST_REVISION && b) none ∙ none_used (nat_eq (now h) HIGHEST_REVISION)
stuck_case h id has (k ∷ ks) are reports =
    let first : Contains (k ∷ ks) k = (0, omega arith, refl) in
    let some : has ≡ true = reports.1 (k, (are.each k).0 first) in
    ap (λ b. nat_eq (now h) HIGHEST_REVISION && b) some ∙ all_used (nat_eq (now h) HIGHEST_REVISION)

pub stuck : (h : History) (id : ℕ) (has : Bool) → IsTrue has ↔ HasKeys (lease_now h) id →
    (nat_eq (now h) HIGHEST_REVISION && has) ≡ is_used_up h (deletions_of h id)
stuck h id has reports = stuck_case h id has (keys_of_lease h id) (are_keys h id) reports

pub ended_is : (s next : Standing) (id : ℕ) → ended s id ≡ Ok next → without_lease s id ≡ next
ended_is s next id is = grind (arith, nat_tests)

-- a lease that is taken away leaves fewer
pub one_fewer : (live : Live) (id : ℕ) → finmap.contains_key live id ≡ true → finmap.len live ≡ suc (finmap.len (finmap.remove live id))
one_fewer live id has =
    let less : finmap.len (finmap.remove live id) ≡ finmap.len live - 1 =
    finmap.len-remove nat_cmp_total live id ∙ ap (λ b. cond b (finmap.len live - 1) (finmap.len live)) has in
    let some : 0 < finmap.len live = positive (finmap.len live) refl in
    omega arith
  where
    positive : (n : ℕ) → finmap.len live ≡ n → 0 < n
    positive zero is =
        let none : finmap.contains_key live id ≡ false =
        ap (λ (m : Live). finmap.contains_key m id) (finmap.empty_of_len live is) ∙ ap (λ (o : Option Term). is_some o) (finmap.get-empty nat_cmp id) in
        absurd (cc)
    positive (suc n) is = omega arith

-- the lease that is due first is live
pub due_lives : (live : Live) (moment id : ℕ) → first_due live moment ≡ Some id → is_live_in live id ≡ true
due_lives live moment id is = ap (λ (o : Option Term). is_some o) ((first_due_is_next.next live moment id).0 is).live_now

pub ended_fewer : (s next : Standing) (id : ℕ) → first_due s.live s.moment ≡ Some id → ended s id ≡ Ok next → finmap.len s.live ≡ suc (finmap.len next.live)
ended_fewer s next id due is = grind (arith, nat_tests, one_fewer, due_lives, ended_is)

-- One step of an advance.
pub none_due : (more : ℕ) (s : Standing) → first_due s.live s.moment ≡ None → expire_up_to more s ≡ record { expired = []; leaves = s; cause = None }
none_due more s none = grind (arith, nat_tests)

pub one_ended : (more id : ℕ) (s : Standing) (outcome : Result Standing Refusal) → first_due s.live s.moment ≡ Some id → ended s id ≡ outcome →
    expire_up_to (suc more) s
    ≡ elim outcome as (λ x. Advance) [
      | Err cause ↦ record { expired = []; leaves = s; cause = Some cause }
      | Ok next ↦ after (expired_in id next ∷ []) (expire_up_to more next)
    ]
one_ended more id s outcome due is = grind (arith, nat_tests)

pub done : (s : Standing) → first_due s.live s.moment ≡ None → expire_all s ≡ record { expired = []; leaves = s; cause = None }
done s none = none_due (finmap.len s.live) s none

pub next_ended : (s next : Standing) (id : ℕ) → first_due s.live s.moment ≡ Some id → ended s id ≡ Ok next →
    expire_all s ≡ after (expired_in id next ∷ []) (expire_all next)
next_ended s next id due is = grind (arith, nat_tests, ended_fewer, one_ended)

pub next_refused : (s : Standing) (id : ℕ) (cause : Refusal) → first_due s.live s.moment ≡ Some id → ended s id ≡ Err cause →
    expire_all s ≡ record { expired = []; leaves = s; cause = Some cause }
next_refused s id cause due is =
    ap (λ n. expire_up_to n s) (one_fewer s.live id (due_lives s.live s.moment id due))
    ∙ one_ended (finmap.len (finmap.remove s.live id)) id s (Err cause) due is

-- What expired so far, followed by the rest.
pub one_more_expired : (whole : Advance) (expired : List Expired) (s next : Standing) (id : ℕ) → whole ≡ after expired (expire_all s) →
    first_due s.live s.moment ≡ Some id → ended s id ≡ Ok next → whole ≡ after (expired ++ expired_in id next ∷ []) (expire_all next)
one_more_expired whole expired s next id so_far due is =
    so_far ∙ ap (after expired) (next_ended s next id due is)
    ∙ λ i. record {
      expired = sym (append_assoc expired (expired_in id next ∷ []) (expire_all next).expired) i;
      leaves = (expire_all next).leaves;
      cause = (expire_all next).cause;
    }

ended_with : (expired : List Expired) (s : Standing) (cause : Option Refusal) →
    after expired (record { expired = []; leaves = s; cause = cause }) ≡ record { expired = expired; leaves = s; cause = cause }
ended_with expired s cause = λ i. record { expired = append-nil expired i; leaves = s; cause = cause }

cut_case : (whole : Advance) (expired : List Expired) (s : Standing) (id : ℕ) (cause : Refusal) (outcome : Result Standing Refusal) → ended s id ≡ outcome →
    whole ≡ after expired (expire_all s) → first_due s.live s.moment ≡ Some id → IsRefusalOf outcome cause → IsCutShort whole expired cause s
cut_case whole expired s id cause (Ok next) is so_far due refused =
    inr (refused, record { so_far = so_far; id = id; is_next = due; can_end = ap (λ (r : Result Standing Refusal). is_ok r) is })
cut_case whole expired s id cause (Err refusal) is so_far due refused =
    inl (so_far ∙ ap (after expired) (next_refused s id refusal due is) ∙ ended_with expired s (Some refusal)
    ∙ ap (λ r. record { expired = expired; leaves = s; cause = Some r }) (sym refused))

pub cut_short : (whole : Advance) (expired : List Expired) (s : Standing) (id : ℕ) (cause : Refusal) →
    whole ≡ after expired (expire_all s) → first_due s.live s.moment ≡ Some id → IsRefusalOf (ended s id) cause → IsCutShort whole expired cause s
cut_short whole expired s id cause so_far due refused = cut_case whole expired s id cause (ended s id) refl so_far due refused

-- the lease log, one more expiry after it
pub with_expiries-push : (expired : List Expired) (e : Expired) (log : List LogItem) →
    with_expiries (expired ++ e ∷ []) log ≡ Expire e.id ∷ with_expiries expired log
with_expiries-push [] e log = refl
with_expiries-push (x ∷ xs) e log = with_expiries-push xs e (Expire x.id ∷ log)

same_number : (a b : ℕ) → eq_by_cmp nat_cmp a b ≡ nat_eq b a
same_number a b = test_number a b ∙ nat_eq_equiv.symm a b

pub removed_log : (live next : Live) (id : ℕ) (log : List LogItem) → next ≡ finmap.remove live id → StandsFor live log →
    (asked : ℕ) → finmap.get next asked ≡ cond (nat_eq id asked) None (term_of log asked)
removed_log live next id log is stands asked =
    ap (λ (m : Live). finmap.get m asked) is
    ∙ finmap.get-remove nat_cmp_total live id asked
    ∙ ap (λ b. cond b None (finmap.get live asked)) (same_number asked id)
    ∙ ap (cond (nat_eq id asked) None) (stands asked)

-- one more lease expired, and the log has it
pub one_more_logged : (first s next : Standing) (id : ℕ) (expired : List Expired) → ended s id ≡ Ok next →
    ((log : List LogItem) → StandsFor first.live log → StandsFor s.live (with_expiries expired log)) →
    (log : List LogItem) → StandsFor first.live log → StandsFor next.live (with_expiries (expired ++ expired_in id next ∷ []) log)
one_more_logged first s next id expired is logged log stands asked = grind (arith, nat_tests, removed_log, ended_is, with_expiries-push)
