-- The lease that is due first, as a function, is the next due one.
use Rattle.std.proofs.Common.{◌≡◌, ◌⊎◌, ℕ, ◌<◌, ◌≤◌, true, is_some, List, [], ◌∷◌, Option, Some, None, option_map, refl, sym, ap, ◌∙◌, arith}
use Rattle.std.proofs.lemmas.Bool.{eqb-true, ltb-true, ltb-false, leb-true, leb-false, eqb-false, Decides.nat_tests}
use Rattle.std.proofs.lemmas.Option.{same_Some}
use Rattle.std.specs.List.{list_any}
use Rattle.std.specs.Ordering.{nat_cmp, eq_by_cmp}
use Rattle.std.specs.FinMap as finmap
use Rattle.stm_leases.specs.LeaseLog.{Term, due}
use Rattle.stm_leases.specs.Live.{Live}
use Rattle.stm_leases.specs.DueFirst.{DueLease, due_lease, earlier_of, earlier, first_among, NoneIsDue, ComesNoLater, IsNextDue}
use Rattle.stm_leases.specs.Laws.{FirstDueIsNext}
use Rattle.stm_leases.proofs.Tables.{test_number}

-- of two due leases the chosen one is one of them, and comes no later than either
record IsChosen (one other chosen : DueLease) : Type 0 where
  pub among : (chosen ≡ one) ⊎ (chosen ≡ other)
  pub over_one : ComesNoLater chosen.since chosen.id one.since one.id
  pub over_other : ComesNoLater chosen.since chosen.id other.since other.id

chosen : (one other : DueLease) → IsChosen one other (earlier_of one other)
chosen one other = grind (arith, nat_tests, ltb-true, eqb-true, ltb-false, eqb-false)

abbrev pub IsAmong : {X : Type 0} → X → List X → Type 0
IsAmong x [] = ⊥
IsAmong x (y ∷ ys) = (y ≡ x) ⊎ IsAmong x ys

module _ (live : Live) (now : ℕ) where
  -- a due lease is a live one that is due at the moment
  record StandsDue (d : DueLease) : Type 0 where
    pub term : Term
    pub stands : finmap.get live d.id ≡ Some term
    pub since : due term ≡ d.since
    pub is_due : due term ≤ now

  -- what is reported of these ids: a due one that comes no later than any, or that none is due
  abbrev IsReported : List ℕ → Option DueLease → Type 0
  IsReported ids None = (id : ℕ) (term : Term) → IsAmong id ids → finmap.get live id ≡ Some term → now < due term
  IsReported ids (Some d) = StandsDue d
      × ((id : ℕ) (term : Term) → IsAmong id ids → finmap.get live id ≡ Some term → due term ≤ now → ComesNoLater d.since d.id (due term) id)

  -- a lease by itself
  abbrev IsOne : ℕ → Option DueLease → Type 0
  IsOne id None = (term : Term) → finmap.get live id ≡ Some term → now < due term
  IsOne id (Some d) = (d.id ≡ id) × StandsDue d

  one : (id : ℕ) (o : Option Term) → finmap.get live id ≡ o → IsOne id (due_lease now id o)
  one id o is = grind (arith, nat_tests, leb-true, same_Some, leb-false)

  -- what is found of one id is no later than that id
  over_itself : (id : ℕ) (d : DueLease) → d.id ≡ id → StandsDue d → (term : Term) → finmap.get live id ≡ Some term → ComesNoLater d.since d.id (due term) id
  over_itself id d same stands term is = grind (arith, nat_tests, same_Some)

  later : (id : ℕ) (ids : List ℕ) (o r : Option DueLease) → IsOne id o → IsReported ids r → IsReported (id ∷ ids) (earlier o r)
  later id ids o r first rest = grind (arith, nat_tests, over_itself, chosen)

  reported : (ids : List ℕ) → IsReported ids (first_among live now ids)
  reported [] = λ id term among is. absurd among
  reported (id ∷ ids) = later id ids (due_lease now id (finmap.get live id)) (first_among live now ids) (one id (finmap.get live id) refl) (reported ids)

  -- each live id is among the keys
  among-any : (id : ℕ) (ids : List ℕ) → list_any (eq_by_cmp nat_cmp id) ids ≡ true → IsAmong id ids
  among-any id [] any = absurd (cc)
  among-any id (x ∷ xs) any = grind (arith, nat_tests, eqb-true, test_number, among-any id xs)

  among : (id : ℕ) (term : Term) → finmap.get live id ≡ Some term → IsAmong id (finmap.keys live)
  among id term is = among-any id (finmap.keys live) (sym (finmap.contains_key-keys live id) ∙ ap is_some is)

  next-of : (r : Option DueLease) → IsReported (finmap.keys live) r → (id : ℕ) → option_map (λ (d : DueLease). d.id) r ≡ Some id → IsNextDue live now id
  next-of r is id same = grind (arith, nat_tests, same_Some, among)

  of-next : (r : Option DueLease) → IsReported (finmap.keys live) r → (id : ℕ) → IsNextDue live now id → option_map (λ (d : DueLease). d.id) r ≡ Some id
  of-next r is id next = grind (arith, nat_tests, among)

  none-of : (r : Option DueLease) → IsReported (finmap.keys live) r → option_map (λ (d : DueLease). d.id) r ≡ None → NoneIsDue live now
  none-of r is same = grind (arith, nat_tests, among)

  of-none : (r : Option DueLease) → IsReported (finmap.keys live) r → NoneIsDue live now → option_map (λ (d : DueLease). d.id) r ≡ None
  of-none r is none = grind (arith, nat_tests)

pub first_due_is_next : FirstDueIsNext
first_due_is_next = record {
  next = λ live now id. (
    next-of live now (first_among live now (finmap.keys live)) (reported live now (finmap.keys live)) id,
    of-next live now (first_among live now (finmap.keys live)) (reported live now (finmap.keys live)) id,
  );
  none = λ live now. (
    none-of live now (first_among live now (finmap.keys live)) (reported live now (finmap.keys live)),
    of-none live now (first_among live now (finmap.keys live)) (reported live now (finmap.keys live)),
  );
}
