-- The store's definitions never refuse a call as out of memory.
use Rattle.std.proofs.Common.{◌≡◌, ◌≢◌, ◌≤◌, inl, inr, ℕ, zero, suc, Bool, cond, List, [], ◌∷◌, ◌++◌, length, length-append, Option, Some}
use Rattle.std.proofs.Common.{None, Result, Ok, Err, refl, sym, subst, arith}
use Rattle.std.specs.Option.{option_or}
use Rattle.std.specs.FinMap as finmap
use Rattle.std.proofs.lemmas.Bool.Decides.{nat_tests}
use Rattle.stm_leases.specs.DueFirst.{first_due}
use Rattle.stm_outcome.specs.declared.txn.Op.{Op}
use Rattle.stm_outcome.specs.declared.txn.Txn.{Txn}
use Rattle.stm_outcome.specs.declared.advance.Expired.{Expired}
use Rattle.stm_outcome.specs.declared.refusal.Refusal.{Refusal}
use Rattle.stm_outcome.specs.declared.refusal.Refusal.TheVariants.{OutOfMemory, TooManyOps, EmptyKey, DuplicateKey, LeaseNotFound, RevisionsUsedUp}
use Rattle.stm_outcome.specs.Branches.{op_refusal, branch_refusal}
use Rattle.stm_txn.specs.LeaseKeys.{deletions_of}
use Rattle.stm_outcome.specs.Outcome.{Done, outcome, is_used_up}
use Rattle.stm_txn.specs.Standing.{Standing, Advance, step_of, transacted, ended, without_lease, terms_of}
use Rattle.stm_txn.specs.Standing.{after, expired_in, expire_up_to, expire_all, advanced, IsCutShort}
use Rattle.stm_outcome.specs.Terms.{Terms}

abbrev pub NoOutOfMemory : Option Refusal → Type 0
NoOutOfMemory None = Unit {0}
NoOutOfMemory (Some cause) = cause ≢ OutOfMemory

abbrev pub NeverWants : {A : Type 0} → Result A Refusal → Type 0
NeverWants (Ok done) = Unit {0}
NeverWants (Err cause) = cause ≢ OutOfMemory

-- ---- transactions ----

by_or : (first later : Option Refusal) → NoOutOfMemory first → NoOutOfMemory later → NoOutOfMemory (option_or first later)
by_or first later h3 rest = grind (arith, nat_tests)

by_fault : (many empty clash : Bool) → NoOutOfMemory (cond many (Some TooManyOps) (cond empty (Some EmptyKey) (cond clash (Some DuplicateKey) None)))
by_fault many empty clash = grind (arith, nat_tests)

by_put : (fine : Bool) → NoOutOfMemory (cond fine None (Some LeaseNotFound))
by_put fine = grind (arith, nat_tests)

op_never : (terms : Terms) (op : Op) → NoOutOfMemory (op_refusal terms op)
op_never terms op = grind (arith, nat_tests, by_put)

branch_never : (terms : Terms) (ops : List Op) → NoOutOfMemory (branch_refusal terms ops)
branch_never terms [] = tt
branch_never terms (op ∷ ops) = by_or (op_refusal terms op) (branch_refusal terms ops) (op_never terms op) (branch_never terms ops)

by_room : {A : Type 0} (used : Bool) (done : A) → NeverWants {A = A} (cond used (Err RevisionsUsedUp) (Ok done))
by_room used done = grind (arith, nat_tests)

outcome_never : (terms : Terms) (txn : Txn) → NeverWants (outcome terms txn)
outcome_never terms txn = grind (arith, nat_tests, by_fault, branch_never, by_room)

by_step : (s : Standing) (o : Result Done Refusal) → NeverWants o → NeverWants (step_of s o)
by_step s o never = grind (arith, nat_tests)

pub transacted_never : (s : Standing) (txn : Txn) → NeverWants (transacted s txn)
transacted_never s txn = by_step s (outcome (terms_of s) txn) (outcome_never (terms_of s) txn)

-- ---- an advance ----

pub ended_never : (s : Standing) (id : ℕ) → NeverWants (ended s id)
ended_never s id = by_room (is_used_up s.history (deletions_of s.history id)) (without_lease s id)

-- an advance by the end of its first lease, and by the lease that is due first
abbrev by_end : ℕ → Standing → ℕ → Result Standing Refusal → Advance
by_end n s id (Err cause) = record { expired = []; leaves = s; cause = Some cause }
by_end n s id (Ok next) = after (expired_in id next ∷ []) (expire_up_to n next)

abbrev by_due : ℕ → Standing → Option ℕ → Advance
by_due n s None = record { expired = []; leaves = s; cause = None }
by_due n s (Some id) = by_end n s id (ended s id)

same_end : (n : ℕ) (s : Standing) (id : ℕ) (o : Result Standing Refusal) → elim o [
  | Err cause ↦ record { expired = []; leaves = s; cause = Some cause }
  | Ok next ↦ after (expired_in id next ∷ []) (expire_up_to n next)
] ≡ by_end n s id o
same_end n s id (Err cause) = refl
same_end n s id (Ok next) = refl

one_more : (n : ℕ) (s : Standing) (o : Option ℕ) → elim o [
  | None ↦ record { expired = []; leaves = s; cause = None }
  | Some id ↦ elim (ended s id) [
    | Err cause ↦ record { expired = []; leaves = s; cause = Some cause }
    | Ok next ↦ after (expired_in id next ∷ []) (expire_up_to n next)
  ]
] ≡ by_due n s o
one_more n s None = refl
one_more n s (Some id) = same_end n s id (ended s id)

due_never : (n : ℕ) (s : Standing) (o : Option ℕ) → ((next : Standing) → NoOutOfMemory (expire_up_to n next).cause) → NoOutOfMemory (by_due n s o).cause
due_never n s o rest = grind (arith, nat_tests, ended_never)

expiries_never : (n : ℕ) (s : Standing) → NoOutOfMemory (expire_up_to n s).cause
expiries_never zero s = tt
expiries_never (suc n) s =
    subst (λ (a : Advance). NoOutOfMemory a.cause) (sym (one_more n s (first_due s.live s.moment)))
    (due_never n s (first_due s.live s.moment) (λ next. expiries_never n next))

pub advanced_never : (s : Standing) (moment : ℕ) → NoOutOfMemory (advanced s moment).cause
advanced_never s moment = grind (arith, nat_tests, expiries_never)

-- no more leases expire than are live

abbrev reported_in : Advance → ℕ
reported_in a = length a.expired

due_within : (n : ℕ) (s : Standing) (o : Option ℕ) → ((next : Standing) → reported_in (expire_up_to n next) ≤ n) → reported_in (by_due n s o) ≤ suc n
due_within n s o rest = grind (arith, nat_tests)

expiries_within : (n : ℕ) (s : Standing) → reported_in (expire_up_to n s) ≤ n
expiries_within zero s = omega arith
expiries_within (suc n) s =
    subst (λ (a : Advance). reported_in a ≤ suc n) (sym (one_more n s (first_due s.live s.moment)))
    (due_within n s (first_due s.live s.moment) (λ next. expiries_within n next))

pub advance_within : (s : Standing) (moment : ℕ) → length (advanced s moment).expired ≤ finmap.len s.live
advance_within s moment = grind (arith, nat_tests, expiries_within)

pub taken_within : (s left : Standing) (moment : ℕ) (expired : List Expired) (cause : Option Refusal) →
    advanced s moment ≡ record { expired = expired; leaves = left; cause = cause } → length expired ≤ finmap.len s.live
taken_within s left moment expired cause is = subst (λ (a : Advance). length a.expired ≤ finmap.len s.live) is (advance_within s moment)

pub cut_within : (s left : Standing) (moment : ℕ) (expired : List Expired) (cause : Refusal) →
    IsCutShort (advanced s moment) expired cause left → length expired ≤ finmap.len s.live
cut_within s left moment expired cause (inl is) = taken_within s left moment expired (Some cause) is
cut_within s left moment expired cause (inr (_, stopped)) =
    let whole : length (expired ++ (expire_all left).expired) ≤ finmap.len s.live =
    subst (λ (a : Advance). length a.expired ≤ finmap.len s.live) stopped.so_far (advance_within s moment) in
    omega (arith, length-append expired (expire_all left).expired)
