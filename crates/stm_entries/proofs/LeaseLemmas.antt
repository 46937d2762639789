-- A map of leases follows the live leases.
use Rattle.std.proofs.Common.{◌≡◌, ℕ, Bool, true, false, cond, List, [], Option, Some, None, option_map, refl, sym, ap, subst, ◌∙◌}
use Rattle.std.specs.BTreeMap as tree
use Rattle.std.specs.BTreeMap.{BTreeMap, Updates}
use Rattle.std.specs.Map.{lookup}
use Rattle.std.specs.Ordering.{nat_cmp, is_eq, eq_by_cmp}
use Rattle.std.specs.Cmp.{nat_cmp_total, eq_by_cmp_equiv}
use Rattle.std.specs.FinMap as finmap
use Rattle.stm_leases.specs.LeaseLog.{Term}
use Rattle.stm_leases.specs.Live.{Live}
use Rattle.stm_entries.specs.declared.live_leases.LiveLease.{LiveLease}
use Rattle.stm_entries.specs.LiveLeases.{term_of, HasLeases}
use Rattle.stm_entries.specs.Replay.{renewed_at}

mapped_cond : (b : Bool) (w o : Option LiveLease) (t : Option Term) → option_map term_of o ≡ t
    → option_map term_of (cond b w o) ≡ cond b (option_map term_of w) t
mapped_cond true w o t has = refl
mapped_cond false w o t has = has

changed : (m n : BTreeMap ℕ LiveLease) (before after : Live) (id : ℕ) (w : Option LiveLease) → Updates nat_cmp m n id w
    → ((q : ℕ) → finmap.get after q ≡ cond (eq_by_cmp nat_cmp q id) (option_map term_of w) (finmap.get before q))
    → HasLeases m before → HasLeases n after
changed m n before after id w updates is has q =
    ap (λ (o : Option LiveLease). option_map term_of o) (updates.0 q)
    ∙ mapped_cond (eq_by_cmp nat_cmp id q) w (tree.get nat_cmp m q) (finmap.get before q) (has q)
    ∙ ap (λ (b : Bool). cond b (option_map term_of w) (finmap.get before q)) ((eq_by_cmp_equiv nat_cmp_total).symm id q)
    ∙ sym (is q)

pub no_leases : (m : BTreeMap ℕ LiveLease) → m.entries ≡ [] → HasLeases m finmap.empty
no_leases m none q =
    ap (λ (es : List (ℕ × LiveLease)). option_map term_of (lookup (λ k. is_eq (nat_cmp q k)) es)) none ∙ sym (finmap.get-empty nat_cmp q)

pub begun : (m n : BTreeMap ℕ LiveLease) (id : ℕ) (lease : LiveLease) → Updates nat_cmp m n id (Some lease) → (live : Live) → HasLeases m live
    → HasLeases n (finmap.insert live id (term_of lease))
begun m n id lease updates live has =
    changed m n live (finmap.insert live id (term_of lease)) id (Some lease) updates (finmap.get-insert nat_cmp_total live id (term_of lease)) has

pub renewed : (m n : BTreeMap ℕ LiveLease) (id at : ℕ) (old : LiveLease) → tree.get nat_cmp m id ≡ Some old
    → Updates nat_cmp m n id (Some (record { ttl = old.ttl; renewed = at })) → (live : Live) → HasLeases m live
    → HasLeases n (renewed_at live id at (finmap.get live id))
renewed m n id at old found updates live has =
    subst (λ (o : Option Term). HasLeases n (renewed_at live id at o)) (sym (ap (λ (o : Option LiveLease). option_map term_of o) found) ∙ has id)
    (begun m n id (record { ttl = old.ttl; renewed = at }) updates live has)

pub ended : (m n : BTreeMap ℕ LiveLease) (id : ℕ) → Updates nat_cmp m n id None → (live : Live) → HasLeases m live → HasLeases n (finmap.remove live id)
ended m n id updates live has = changed m n live (finmap.remove live id) id None updates (finmap.get-remove nat_cmp_total live id) has
