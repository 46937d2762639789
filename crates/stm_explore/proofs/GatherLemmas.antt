-- Outcomes that are gathered one after another.
use Rattle.std.proofs.Common.{◌≡◌, ◌≢◌, ◌∙◌, ◌↔◌, ◌⊎◌, inl, inr, IsTrue, ℕ, suc, ◌+◌, ◌<◌, Bool, true, false, List, []}
use Rattle.std.proofs.Common.{◌∷◌, ◌++◌, length, sym, ap, subst, get_or, take, flat_map, arith}
use Rattle.std.specs.Prelude.{Contains}
use Rattle.std.specs.List.{list_any, AllByRecursion}
use Rattle.std.proofs.lemmas.Grind.{flat_map-append}
use Rattle.std.proofs.lemmas.List.{append-nil}
use Rattle.std.proofs.Math.Seq.{take-suc}
use Rattle.std.proofs.lemmas.List.Elements.{Contains-append_left, Contains-append_right, Contains-append_cases}
use Rattle.stm_world.specs.World.{World}
use Rattle.stm_schedules.specs.declared.outcome.Outcome.{Outcome}
use Rattle.stm_schedules.specs.declared.moves.Move.{Move}
use Rattle.stm_schedules.specs.Outcomes.{Ends, shown, outcome_if_whole}
use Rattle.stm_visited.specs.Layers.{Reached}
use Rattle.stm_explore.specs.declared.places.ReportedPlace.{ReportedPlace}
use Rattle.stm_explore.specs.Gathering.{AreDistinct, Gathers}

pub none_in_nothing : (it : Outcome) → Contains (let none : List Outcome = [] in none) it → ⊥
none_in_nothing it c = omega (arith, c.1)

each_then : (xs ys a b c : List Outcome) → Gathers xs a b → Gathers ys b c → (it : Outcome) →
    Contains c it ↔ (Contains a it ⊎ Contains (xs ++ ys) it)
each_then xs ys a b c first second it = (λ in_c. there ((second.each it).0 in_c), back)
  where
    from_first : Contains a it ⊎ Contains xs it → Contains a it ⊎ Contains (xs ++ ys) it
    from_first (inl x) = inl x
    from_first (inr x) = inr (Contains-append_left xs ys it x)

    there : Contains b it ⊎ Contains ys it → Contains a it ⊎ Contains (xs ++ ys) it
    there (inl x) = from_first ((first.each it).0 x)
    there (inr x) = inr (Contains-append_right xs ys it x)

    of_both : Contains xs it ⊎ Contains ys it → Contains c it
    of_both (inl x) = (second.each it).1 (inl ((first.each it).1 (inr x)))
    of_both (inr x) = (second.each it).1 (inr x)

    back : Contains a it ⊎ Contains (xs ++ ys) it → Contains c it
    back (inl x) = (second.each it).1 (inl ((first.each it).1 (inl x)))
    back (inr x) = of_both (Contains-append_cases xs ys it x)

pub gathers_then : (xs ys a b c : List Outcome) → Gathers xs a b → Gathers ys b c → Gathers (xs ++ ys) a c
gathers_then xs ys a b c first second = record {
  each = each_then xs ys a b c first second;
  distinct = λ are. second.distinct (first.distinct are);
}

-- ---- one outcome ----

differs_from_all : (it : Outcome) (found : List Outcome) (x : Outcome) → AllByRecursion (λ y. x ≢ y) found → x ≢ it → AllByRecursion (λ y. x ≢ y) (found ++ it ∷ [])
differs_from_all it [] x all other = (other, tt)
differs_from_all it (y ∷ ys) x all other = (all.0, differs_from_all it ys x all.1 other)

in_front : (x it : Outcome) (xs : List Outcome) → Contains xs it → Contains (x ∷ xs) it
in_front x it xs c = Contains-append_right (x ∷ []) xs it c

first_in : (x it : Outcome) (xs : List Outcome) → x ≡ it → Contains (x ∷ xs) it
first_in x it xs e = (0, omega arith, e)

distinct_push : (it : Outcome) (found : List Outcome) → (Contains found it → ⊥) → AreDistinct found → AreDistinct (found ++ it ∷ [])
distinct_push it [] new are = (tt, tt)
distinct_push it (x ∷ xs) new are =
    (differs_from_all it xs x are.0 (λ e. new (first_in x it xs e)), distinct_push it xs (λ c. new (in_front x it xs c)) are.1)

pub gathers_new : (it : Outcome) (found : List Outcome) → (Contains found it → ⊥) → Gathers (it ∷ []) found (found ++ it ∷ [])
gathers_new it found new = record {
  each = λ other. (λ c. Contains-append_cases found (it ∷ []) other c, of_either other);
  distinct = distinct_push it found new;
}
  where
    of_either : (other : Outcome) → Contains found other ⊎ Contains (it ∷ []) other → Contains (found ++ it ∷ []) other
    of_either other (inl c) = Contains-append_left found (it ∷ []) other c
    of_either other (inr c) = Contains-append_right found (it ∷ []) other c

-- ---- the place itself ----

pub not_found : (r : Bool) (a b : List Outcome) (it : Outcome) → r ≡ false → a ≡ b → (IsTrue r ↔ Contains a it) → Contains b it → ⊥
not_found r a b it not is exact there =
    let yes : r ≡ true = exact.1 (subst (λ (xs : List Outcome). Contains xs it) (sym is) there) in cc

-- no move can be made: there is one outcome
pub whole_here : (ms : List Move) (w : World) (ends : Ends) (it : Outcome) (old new : List Outcome) → list_any (λ (m : Move). true) ms ≡ false →
    it ≡ shown w ends → Gathers (it ∷ []) old new → Gathers (outcome_if_whole ms w ends) old new
whole_here [] w ends it old new none is gathers = subst (λ (o : Outcome). Gathers (o ∷ []) old new) is gathers
whole_here (m ∷ ms) w ends it old new none is gathers = absurd (cc)

-- ---- the places of a layer ----

-- those of one place more
pub gathers_more : (f : Reached ReportedPlace Move → List Outcome) (rs : List (Reached ReportedPlace Move)) (i : ℕ) (r : Reached ReportedPlace Move) (start found next : List Outcome) →
    i < length rs → r ≡ get_or rs i r → Gathers (flat_map f (take i rs)) start found → Gathers (f r) found next → Gathers (flat_map f (take (i + 1) rs)) start next
gathers_more f rs i r start found next within at so_far more =
    let e : i + 1 ≡ suc i = omega arith in
    let is : take (i + 1) rs ≡ take i rs ++ r ∷ [] =
    ap (λ k. take k rs) e ∙ take-suc rs i r within ∙ ap (λ x. take i rs ++ x ∷ []) (sym at) in
    subst (λ (xs : List Outcome). Gathers xs start next)
    (sym (ap (flat_map f) is ∙ flat_map-append f (take i rs) (r ∷ []) ∙ ap (λ ys. flat_map f (take i rs) ++ ys) (append-nil (f r))))
    (gathers_then (flat_map f (take i rs)) (f r) start found next so_far more)

-- what has the same members is gathered alike
pub gathers_same : (xs ys old new : List Outcome) → ((it : Outcome) → Contains xs it ↔ Contains ys it) → Gathers xs old new → Gathers ys old new
gathers_same xs ys old new same gathers = record {
  each = λ it. (λ c. there it ((gathers.each it).0 c), λ c. (gathers.each it).1 (back it c));
  distinct = gathers.distinct;
}
  where
    there : (it : Outcome) → Contains old it ⊎ Contains xs it → Contains old it ⊎ Contains ys it
    there it (inl c) = inl c
    there it (inr c) = inr ((same it).0 c)

    back : (it : Outcome) → Contains old it ⊎ Contains ys it → Contains old it ⊎ Contains xs it
    back it (inl c) = inl c
    back it (inr c) = inr ((same it).1 c)
