-- What it takes for a store to open with keys and leases, part by part.
use Rattle.std.proofs.Common.{◌≡◌, ◌≤◌, ℕ, Bool, true, false, List, [], ◌∷◌, ◌++◌, Option, None, Some, refl, sym, ap, ◌∙◌, cond, arith, eqb-true}
use Rattle.std.specs.FinMap as finmap
use Rattle.std.specs.FinMap.{find, is_sorted}
use Rattle.std.specs.FinMap.Entries.{find-append}
use Rattle.std.specs.Prelude.{nat_eq, bytes_eq, IfSome}
use Rattle.std.specs.Ordering.{nat_cmp}
use Rattle.std.specs.Cmp.Lexicographic.{slice_cmp, nat_list_cmp_total}
use Rattle.std.proofs.lemmas.Bool.{and_parts, leb-true, Decides.nat_tests}
use Rattle.std.proofs.lemmas.Cmp.{nat_list_eq_equiv}
use Rattle.std.proofs.lemmas.Map.Text.{is_eq-slice_cmp}
use Rattle.stm_history.specs.declared.key_state.KeyState.{KeyState}
use Rattle.stm_history.specs.declared.revisions.TheConstants.{HIGHEST_NUMBER}
use Rattle.stm_history.specs.Opening.{States, opened_state}
use Rattle.stm_keys.specs.CanOpen.{can_open}
use Rattle.stm_keys.proofs.OpeningLaws.{can_open_found, can_open_sorted}
use Rattle.stm_leases.specs.Live.{Live, grant_refusal, AreInRange}
use Rattle.stm_leases.specs.Leases.{Leases, lease_of, AttachedToLive}
use Rattle.stm_outcome.specs.Numbers.{LeaseFits, LeasesFit}
use Rattle.stm_outcome.specs.Terms.{most_operations}
use Rattle.stm_txn.specs.Leasing.{attaching, lease_named, AttachedAsStored}
use Rattle.stm_txn.proofs.Bounding.{live_fits}
use Rattle.stm_txn.specs.declared.restored.KeptLease.{KeptLease}
use Rattle.stm_txn.specs.declared.restored.Checkpoint.{Checkpoint}
use Rattle.stm_txn.specs.Restored.{term_kept, are_granted, is_in_range, can_restore, restored}

-- the first of the grants is not refused, and neither are the others once it was made
pub first_granted : (lease : KeptLease) (leases : List KeptLease) (live : Live) → are_granted (lease ∷ leases) live ≡ true
    → (grant_refusal live lease.id lease.ttl ≡ None) × (are_granted leases (finmap.insert live lease.id (term_kept lease)) ≡ true)
first_granted lease leases live is = grind (arith, nat_tests, and_parts)

-- all grants are, and the limit is one of a store
pub grants_are : (c : Checkpoint) → can_restore c ≡ true → are_granted c.leases finmap.empty ≡ true
grants_are c can = (and_parts _ _ (and_parts _ _ can).1).0

pub few_operations : (c : Checkpoint) → can_restore c ≡ true → c.operations ≤ most_operations
few_operations c can = grind (arith, nat_tests, leb-true, and_parts)

-- ---- keys and their leases

-- a key that was attached to a lease
pub attached_live : (before mid after : Leases) (name key : List ℕ) (lease : ℕ) → mid.attached ≡ before.attached →
    after.attached ≡ finmap.insert mid.attached name lease → name ≡ key → (k : List ℕ) → lease_of after k ≡ cond (bytes_eq key k) (Some lease) (lease_of before k)
attached_live before mid after name key lease same is named k =
    ap (λ (m : finmap.FinMap (slice_cmp nat_cmp) ℕ). finmap.get m k) (is ∙ ap (λ (m : finmap.FinMap (slice_cmp nat_cmp) ℕ). finmap.insert m name lease) same)
    ∙ finmap.get-insert nat_list_cmp_total before.attached name lease k
    ∙ ap (λ b. cond b (Some lease) (lease_of before k))
    (is_eq-slice_cmp k name ∙ nat_list_eq_equiv.symm k name ∙ ap (λ (l : List ℕ). bytes_eq l k) named)

-- one more key
pub attached_next : (states next : States) (e : List ℕ × KeyState) (old new : List ℕ → Option ℕ) → next ≡ states ++ e ∷ [] →
    find (slice_cmp nat_cmp) e.0 states ≡ None → ((k : List ℕ) → old k ≡ attaching (find (slice_cmp nat_cmp) k states)) →
    ((k : List ℕ) → new k ≡ cond (bytes_eq e.0 k) (lease_named e.1.lease) (old k)) →
    (k : List ℕ) → new k ≡ attaching (find (slice_cmp nat_cmp) k next)
attached_next states next e old new more none before added k =
    added k
    ∙ ap (cond (bytes_eq e.0 k) (lease_named e.1.lease)) (before k)
    ∙ inside (bytes_eq e.0 k) (find (slice_cmp nat_cmp) k states)
    ∙ ap (λ b. attaching (cond b (Some e.1) (find (slice_cmp nat_cmp) k states))) (nat_list_eq_equiv.symm e.0 k ∙ sym (is_eq-slice_cmp k e.0))
    ∙ sym (ap attaching (find-append (slice_cmp nat_cmp) nat_list_cmp_total states e.0 e.1 k none))
    ∙ ap (λ (s : States). attaching (find (slice_cmp nat_cmp) k s)) (sym more)
  where
    inside : (b : Bool) (rest : Option KeyState) → cond b (lease_named e.1.lease) (attaching rest) ≡ attaching (cond b (Some e.1) rest)
    inside true rest = refl
    inside false rest = refl

-- ---- a checkpoint whose numbers are those of a store

in_range_opens : (c : Checkpoint) → is_in_range c ≡ true → can_open c.revision c.states ≡ true
in_range_opens c is = grind (arith, nat_tests, and_parts)

pub states_ascend : (c : Checkpoint) → is_in_range c ≡ true → is_sorted (slice_cmp nat_cmp) c.states ≡ true
states_ascend c is = can_open_sorted c.revision c.states (in_range_opens c is)

-- its keys are attached as their states say
pub attached_as_stored : (c : Checkpoint) (lease_at : List ℕ → Option ℕ) → is_in_range c ≡ true →
    ((key : List ℕ) → lease_at key ≡ attaching (find (slice_cmp nat_cmp) key c.states)) → AttachedAsStored lease_at (restored c).history
attached_as_stored c lease_at is each key = each key ∙ sym (ap attaching (can_open_found c.revision c.states key (in_range_opens c is)))

-- and their leases fit, since they are live
fits_by : (s : Leases) (key : List ℕ) (lease : ℕ) (z : Bool) → nat_eq lease 0 ≡ z → AttachedToLive s → AreInRange s.live →
    lease_of s key ≡ cond z None (Some lease) → lease ≤ HIGHEST_NUMBER
fits_by s key lease true is live range at = omega (arith, eqb-true lease 0 is)
fits_by s key lease false is live range at = live_fits s.live lease range (live key lease at)

state_fits : (s : Leases) (key : List ℕ) (state : Option KeyState) → AttachedToLive s → AreInRange s.live → lease_of s key ≡ attaching state →
    IfSome state LeaseFits
state_fits s key state live range at = grind (arith, nat_tests, fits_by)

pub leases_fit : (c : Checkpoint) (s : Leases) → AttachedToLive s → AreInRange s.live → AttachedAsStored (lease_of s) (restored c).history →
    LeasesFit (restored c).history
leases_fit c s live range attached = (λ key. state_fits s key (opened_state (restored c).history.opening key) live range (attached key), tt)
