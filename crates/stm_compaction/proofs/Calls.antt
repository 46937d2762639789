-- A transaction, writes, and the calls about leases come to the same once the revisions below the floor are dropped.
use Rattle.std.proofs.Common.{◌≡◌, ℕ, ◌-◌, ◌≤◌, Bool, cond, List, map, Option, None, ◌∙◌, ap, subst, arith}
use Rattle.std.specs.Prelude.{Result, Ok, Err}
use Rattle.std.specs.FinMap as finmap
use Rattle.std.proofs.lemmas.Bool.Decides.{nat_tests}
use Rattle.stm_history.specs.declared.change.Change.{Change}
use Rattle.stm_history.specs.declared.key_state.KeyState.{KeyState}
use Rattle.stm_history.specs.History.{History, now}
use Rattle.stm_history.specs.Cut.{cut}
use Rattle.stm_history.proofs.CutLaws.{cut_keeps_now}
use Rattle.stm_leases.specs.AttachedKeys.{AreKeysOf}
use Rattle.stm_leases.proofs.KeyLaws.{one_list_of_keys}
use Rattle.stm_outcome.specs.declared.txn.Txn.{Txn}
use Rattle.stm_outcome.specs.declared.refusal.Refusal.{Refusal}
use Rattle.stm_outcome.specs.declared.refusal.Refusal.TheVariants.{RevisionsUsedUp}
use Rattle.stm_txn.specs.Leasing.{attaching, lease_now}
use Rattle.stm_txn.specs.LeaseKeys.{keys_of_lease}
use Rattle.stm_outcome.specs.Effect.{op_of}
use Rattle.stm_outcome.specs.Outcome.{Done, outcome, branch_outcome, with_changes}
use Rattle.stm_txn.specs.Standing.{Standing, Step, kept, terms_of, step_of, transacted, write_step, written, granted, kept_alive, ended, revoked}
use Rattle.stm_txn.proofs.Naming.{are_keys}
use Rattle.stm_txn.proofs.Ending.{ended_is}
use Rattle.stm_compaction.specs.Kept.{kept_step, kept_end, kept_done}
use Rattle.stm_compaction.proofs.Alike.{IsAlike, cut_is_alike}
use Rattle.stm_compaction.proofs.Transactions.{Grows, used_alike, changes_go_on, changes_grow, outcome_kept, branch_kept, branch_grows}

-- a store whose floor is reached
abbrev pub HasReached : Standing → Type 0
HasReached s = s.floor ≤ now s.history

-- ---- transactions

stepped : (s : Standing) (o : Result Done Refusal) → step_of (kept s) (kept_done s.floor o) ≡ kept_step (step_of s o)
stepped s o = grind (arith, nat_tests)

pub transacted_kept : (s : Standing) → HasReached s → (txn : Txn) → transacted (kept s) txn ≡ kept_step (transacted s txn)
transacted_kept s reached txn = ap (step_of (kept s)) (outcome_kept (terms_of s) reached txn) ∙ stepped s (outcome (terms_of s) txn)

-- writes answer the revision after them
abbrev revision_reported : ℕ → Standing → Result (Step ℕ) Refusal
revision_reported revision next = Ok record { answer = revision; next = next }

write_stepped : (s : Standing) (o : Result Done Refusal) → HasReached s → Grows s.history o →
    write_step (kept s) (kept_done s.floor o) ≡ kept_step (write_step s o)
write_stepped s o reached grows = grind (arith, nat_tests, cut_keeps_now)

pub written_kept : (s : Standing) → HasReached s → (writes : List Change) → written (kept s) writes ≡ kept_step (written s writes)
written_kept s reached writes =
    ap (write_step (kept s)) (branch_kept (terms_of s) reached None (map op_of writes))
    ∙ write_stepped s (branch_outcome (terms_of s) None (map op_of writes)) reached (branch_grows (terms_of s) None (map op_of writes))

-- ---- grants and renewals

pub granted_kept : (s : Standing) (id ttl : ℕ) → granted (kept s) id ttl ≡ kept_step (granted s id ttl)
granted_kept s id ttl = grind (arith, nat_tests)

pub kept_alive_kept : (s : Standing) (id : ℕ) → kept_alive (kept s) id ≡ kept_step (kept_alive s id)
kept_alive_kept s id = grind (arith, nat_tests)

-- ---- the end of a lease

-- the keys of a lease are the same, as ascending lists of the same keys
pub lease_kept : (floor : ℕ) (h : History) → floor ≤ now h → (id : ℕ) → keys_of_lease (cut (floor - 1) h) id ≡ keys_of_lease h id
lease_kept floor h reached id =
    let g : History = cut (floor - 1) h in
    let alike : IsAlike floor g h = cut_is_alike floor h reached in
    let same : lease_now g ≡ lease_now h = ap (λ (state : List ℕ → Option KeyState). λ (key : List ℕ). attaching (state key)) alike.keys_now in
    one_list_of_keys (lease_now h) id (keys_of_lease g id) (keys_of_lease h id)
    (subst (λ (f : List ℕ → Option ℕ). AreKeysOf f id (keys_of_lease g id)) same (are_keys g id)) (are_keys h id)

-- a store with this history, and without this lease
abbrev ended_with : Standing → History → ℕ → Result Standing Refusal
ended_with s h id = Ok (record s { history = h; live = finmap.remove s.live id })

ended_by : (s : Standing) → HasReached s → (id : ℕ) (deletions : List Change) (used : Bool) →
    cond used (Err RevisionsUsedUp) (ended_with (kept s) (with_changes (cut (s.floor - 1) s.history) deletions) id)
    ≡ kept_end (cond used (Err RevisionsUsedUp) (ended_with s (with_changes s.history deletions) id))
ended_by s reached id deletions used = grind (arith, nat_tests, changes_go_on)

pub ended_kept : (s : Standing) → HasReached s → (id : ℕ) → ended (kept s) id ≡ kept_end (ended s id)
ended_kept s reached id = grind (arith, nat_tests, IsAlike, cut_is_alike, used_alike, ended_by, lease_kept)

-- it leaves the floor, and no fewer revisions
pub ended_reaches : (s next : Standing) (id : ℕ) → HasReached s → ended s id ≡ Ok next → HasReached next
ended_reaches s next id reached is = grind (arith, nat_tests, changes_grow, ended_is)

pub counted : (s : Standing) → HasReached s → now (kept s).history ≡ now s.history
counted s reached = cut_keeps_now s.history (s.floor - 1) (omega (arith, reached))

pub revoked_kept : (s : Standing) → HasReached s → (id : ℕ) → revoked (kept s) id ≡ kept_step (revoked s id)
revoked_kept s reached id = grind (arith, nat_tests, ended_kept, counted, ended_reaches)
