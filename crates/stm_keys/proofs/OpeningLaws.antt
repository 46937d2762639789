-- What a store can open with: keys that ascend, each of which is found with its state.
use Rattle.std.proofs.Common.{◌≡◌, ℕ, Bool, true, List, [], ◌∷◌, Option, Some, None, zero, suc, refl, ◌∙◌, ap, subst, cond, take, ◌&&◌, arith}
use Rattle.std.specs.Prelude.{slice_get}
use Rattle.std.specs.Ordering.{nat_cmp, is_lt, is_eq, eq_by_cmp, ordering_reverse}
use Rattle.std.specs.declared.cmp.Ordering.{Ordering}
use Rattle.std.specs.declared.cmp.Ordering.TheVariants.{Less}
use Rattle.std.specs.Cmp.Lexicographic.{slice_cmp, nat_list_cmp_total}
use Rattle.std.specs.FinMap.{find, is_sorted}
use Rattle.std.specs.FinMap.Entries.{below_all}
use Rattle.std.proofs.lemmas.Bool.{and_parts, Decides.nat_tests}
use Rattle.stm_history.specs.declared.key_state.KeyState.{KeyState}
use Rattle.stm_history.specs.Opening.{States, is_reached, if_reached}
use Rattle.stm_keys.specs.CanOpen.{stands_before, can_open}

is_less : (o : Ordering) → is_lt o ≡ true → o ≡ Less
is_less o is = grind (arith, nat_tests)

-- what is below a key is below all that follow the key
lower : (x y : List ℕ) (states : States) → is_lt (slice_cmp nat_cmp x y) ≡ true → below_all (slice_cmp nat_cmp) y states ≡ true →
    below_all (slice_cmp nat_cmp) x states ≡ true
lower x y [] less below = refl
lower x y (e ∷ states) less below =
    let parts = and_parts _ _ below in
    let first = nat_list_cmp_total.trans x y e.0 (is_less _ less) (is_less _ parts.0) in
    ap (λ o. is_lt o && below_all (slice_cmp nat_cmp) x states) first ∙ lower x y states less parts.1

below_first : (key : List ℕ) (states : States) → stands_before key states ≡ true → is_sorted (slice_cmp nat_cmp) states ≡ true →
    below_all (slice_cmp nat_cmp) key states ≡ true
below_first key states before sorted = grind (arith, nat_tests, lower, and_parts)

-- their keys ascend
pub can_open_sorted : (number : ℕ) (states : States) → can_open number states ≡ true → is_sorted (slice_cmp nat_cmp) states ≡ true
can_open_sorted number [] can = refl
can_open_sorted number (e ∷ states) can =
    let rest = and_parts _ _ (and_parts _ _ can).1 in
    let sorted = can_open_sorted number states rest.1 in
    ap (λ b. b && is_sorted (slice_cmp nat_cmp) states) (below_first e.0 states rest.0 sorted) ∙ sorted

-- and each is at the opening what its state says
first_reached : (number : ℕ) (s : KeyState) (rest : Option KeyState) (b : Bool) → is_reached number s ≡ true → if_reached number rest ≡ rest →
    if_reached number (cond b (Some s) rest) ≡ cond b (Some s) rest
first_reached number s rest b reached same = grind (arith, nat_tests)

pub can_open_found : (number : ℕ) (states : States) (key : List ℕ) → can_open number states ≡ true →
    if_reached number (find (slice_cmp nat_cmp) key states) ≡ find (slice_cmp nat_cmp) key states
can_open_found number [] key can = refl
can_open_found number (e ∷ states) key can =
    let parts = and_parts _ _ can in
    first_reached number e.1 (find (slice_cmp nat_cmp) key states) (eq_by_cmp (slice_cmp nat_cmp) key e.0) parts.0
    (can_open_found number states key (and_parts _ _ parts.1).1)

-- a key is not found before its place
below_at : (key : List ℕ) (states : States) (place : ℕ) (e : List ℕ × KeyState) → below_all (slice_cmp nat_cmp) key states ≡ true →
    slice_get states place ≡ Some e → is_lt (slice_cmp nat_cmp key e.0) ≡ true
below_at key [] place e below at = absurd (cc)
below_at key (d ∷ states) zero e below at = let same : d ≡ e = cc in subst (λ (f : List ℕ × KeyState). is_lt (slice_cmp nat_cmp key f.0) ≡ true) same (and_parts _ _ below).0
below_at key (d ∷ states) (suc place) e below at = below_at key states place e (and_parts _ _ below).1 at

pub not_before : (states : States) (place : ℕ) (e : List ℕ × KeyState) → is_sorted (slice_cmp nat_cmp) states ≡ true → slice_get states place ≡ Some e →
    find (slice_cmp nat_cmp) e.0 (take place states) ≡ None
not_before [] place e sorted at = absurd (cc)
not_before (d ∷ states) zero e sorted at = refl
not_before (d ∷ states) (suc place) e sorted at =
    let parts = and_parts _ _ sorted in
    let less = is_less _ (below_at d.0 states place e parts.0 at) in
    let above = nat_list_cmp_total.antisymm e.0 d.0 ∙ ap ordering_reverse less in
    ap (λ o. cond (is_eq o) (Some d.1) (find (slice_cmp nat_cmp) e.0 (take place states))) above ∙ not_before states place e parts.1 at
