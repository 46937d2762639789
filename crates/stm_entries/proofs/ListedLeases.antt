-- A map of the live leases lists them ascending by id.
use Rattle.std.proofs.Common.{◌≡◌, ℕ, Bool, true, false, cond, List, [], ◌∷◌, Option, Some, option_map, refl, sym, subst, ◌∙◌}
use Rattle.std.specs.Prelude.{T, ◌&&◌}
use Rattle.std.specs.BTreeMap.{BTreeMap, IsOrdered}
use Rattle.std.specs.Map.{lookup, keys_of}
use Rattle.std.specs.List.{AllByRecursion}
use Rattle.std.specs.List.Sorted.{IsStrictlySortedBy}
use Rattle.std.specs.Ordering.{nat_cmp, is_eq, is_lt}
use Rattle.std.specs.Cmp.{nat_cmp_total}
use Rattle.std.specs.FinMap as finmap
use Rattle.std.specs.FinMap.Entries.{find, below_all, is_sorted, same_entries}
use Rattle.std.specs.declared.cmp.Ordering.{Ordering}
use Rattle.std.specs.declared.cmp.Ordering.TheVariants.{Less}
use Rattle.stm_leases.specs.LeaseLog.{Term}
use Rattle.stm_leases.specs.Live.{Live}
use Rattle.stm_entries.specs.declared.live_leases.LiveLease.{LiveLease}
use Rattle.stm_entries.specs.LiveLeases.{term_of, HasLeases}

abbrev pub terms : List (ℕ × LiveLease) → List (ℕ × Term)
terms [] = []
terms (e ∷ es) = (e.0, term_of e.1) ∷ terms es

-- ---- order ----

both : (a b : Bool) → T a → T b → T (a && b)
both true b p q = q
both false b p q = absurd p

less : (o : Ordering) → o ≡ Less → T (is_lt o)
less o is = subst (λ (r : Ordering). T (is_lt r)) (sym is) tt

terms-below : (id : ℕ) (es : List (ℕ × LiveLease)) → AllByRecursion (λ y. nat_cmp id y ≡ Less) (keys_of es) → T (below_all nat_cmp id (terms es))
terms-below id [] below = tt
terms-below id (e ∷ es) below =
    both (is_lt (nat_cmp id e.0)) (below_all nat_cmp id (terms es)) (less (nat_cmp id e.0) below.0) (terms-below id es below.1)

terms-sorted : (es : List (ℕ × LiveLease)) → IsStrictlySortedBy nat_cmp (keys_of es) → T (is_sorted nat_cmp (terms es))
unfolding IsStrictlySortedBy
terms-sorted [] rises = tt
terms-sorted (e ∷ es) rises =
    both (below_all nat_cmp e.0 (terms es)) (is_sorted nat_cmp (terms es)) (terms-below e.0 es rises.0) (terms-sorted es rises.1)

-- ---- look-ups ----

found_by : (b : Bool) (l : LiveLease) (t : Option Term) (o : Option LiveLease) → t ≡ option_map term_of o
    → cond b (Some (term_of l)) t ≡ option_map term_of (cond b (Some l) o)
found_by true l t o same = refl
found_by false l t o same = same

find-terms : (id : ℕ) (es : List (ℕ × LiveLease)) → find nat_cmp id (terms es) ≡ option_map term_of (lookup (λ k. is_eq (nat_cmp id k)) es)
find-terms id [] = refl
find-terms id (e ∷ es) =
    found_by (is_eq (nat_cmp id e.0)) e.1 (find nat_cmp id (terms es)) (lookup (λ k. is_eq (nat_cmp id k)) es) (find-terms id es)

-- ---- the whole ----

pub listed : (m : BTreeMap ℕ LiveLease) (live : Live) → IsOrdered nat_cmp m → HasLeases m live → terms m.entries ≡ finmap.entries live
listed m live rises has =
    same_entries nat_cmp nat_cmp_total finmap.nat_cmp-IsAntisymmetric (terms m.entries) (finmap.entries live)
    (terms-sorted m.entries rises) (finmap.entries_sorted live)
    (λ id. find-terms id m.entries ∙ has id ∙ finmap.get-entries live id)
