-- The writes of a write buffer, as a write is added, and what the latest writes of latest writes are.
use Rattle.std.proofs.Common.{◌≡◌, ℕ, List, [], ◌∷◌, ◌++◌, Bool, true, false, cond, map, Option, None, Some, refl, sym, ◌∙◌, ap, subst}
use Rattle.std.proofs.Common.{suc, ◌+◌, ◌-◌, ◌<◌, ◌≤◌, length, set, take, drop, get_or, arith}
use Rattle.std.proofs.Math.Seq.{take-suc}
use Rattle.std.proofs.lemmas.List.{take_rest}
use Rattle.std.proofs.lemmas.Option.{same_Some}
use Rattle.std.proofs.lemmas.Iterator.Adapters.{position_from-zero}
use Rattle.std.specs.Prelude.{bytes_eq, ◌||◌, not, is_some}
use Rattle.std.specs.List.{IsDistinct, AllByRecursion, position, position_from}
use Rattle.std.proofs.lemmas.Bool.Decides.{nat_tests}
use Rattle.stm_history.specs.declared.change.Change.{Change}
use Rattle.stm_history.specs.History.{key_of}
use Rattle.stm_program.specs.Writes.{last_write, is_written, latest_of, latest_after, latest_writes}
use Rattle.stm_program.proofs.WriteLemmas.{bytes_eq-flip, last_write-none, last_write-append, last_write-one, is_written-more, or_else}
use Rattle.stm_program.proofs.LatestLemmas.{with_write, latest_writes-more, latest_writes-distinct}

-- ---- writes of distinct keys

-- a key that none of these is
abbrev IsNew : List ℕ → List Change → Type 0
IsNew key ws = AllByRecursion (λ k. bytes_eq key k ≡ false) (map key_of ws)

-- no write of a new key is found
new_unwritten : (key : List ℕ) (ws : List Change) → IsNew key ws → last_write key ws ≡ None
new_unwritten key [] new = last_write-none key
new_unwritten key (w ∷ ws) new =
    last_write-append key (w ∷ []) ws ∙ ap (λ o. or_else o (last_write key (w ∷ []))) (new_unwritten key ws new.1)
    ∙ last_write-one key w ∙ ap (λ b. cond b (Some w) None) (bytes_eq-flip (key_of w) key ∙ new.0)

latest_of-alone : (earlier later : List Change) (w : Change) → is_written (key_of w) earlier ≡ false → last_write (key_of w) later ≡ None →
    latest_of earlier w later ≡ w ∷ []
latest_of-alone earlier later w unwritten alone = rw (unwritten, alone) refl

neither : (a b : Bool) → a ≡ false → b ≡ false → (a || b) ≡ false
neither a b p q = grind (arith, nat_tests)

-- these keys stay unwritten by one write more of another key
unwritten_more : (earlier : List Change) (w : Change) (ws : List Change) → IsNew (key_of w) ws → AllByRecursion (λ v. is_written (key_of v) earlier ≡ false) ws →
    AllByRecursion (λ v. is_written (key_of v) (earlier ++ w ∷ []) ≡ false) ws
unwritten_more earlier w [] new unwritten = tt
unwritten_more earlier w (v ∷ ws) new unwritten = grind (arith, nat_tests, is_written-more, neither, unwritten_more earlier w ws new.1 unwritten.1)

latest_of-distinct : (earlier ws : List Change) → IsDistinct bytes_eq (map key_of ws) → AllByRecursion (λ v. is_written (key_of v) earlier ≡ false) ws →
    latest_after earlier ws ≡ ws
unfolding IsDistinct
latest_of-distinct earlier [] distinct unwritten = refl
latest_of-distinct earlier (w ∷ ws) distinct unwritten =
    grind (arith, nat_tests, latest_of-alone, new_unwritten, unwritten_more, latest_of-distinct (earlier ++ w ∷ []) ws distinct.1 (unwritten_more earlier w ws distinct.0 unwritten.1))

nothing_written : (ws : List Change) → AllByRecursion (λ v. is_written (key_of v) [] ≡ false) ws
nothing_written [] = tt
nothing_written (w ∷ ws) = (ap (λ (o : Option Change). is_some o) (last_write-none (key_of w)), nothing_written ws)

-- writes of distinct keys are the latest ones
pub latest_of_distinct : (ws : List Change) → IsDistinct bytes_eq (map key_of ws) → latest_writes ws ≡ ws
unfolding latest_writes
latest_of_distinct ws distinct = latest_of-distinct [] ws distinct (nothing_written ws)

-- one write more on the latest writes is one write more
pub latest_and_more : (ws : List Change) (w : Change) → latest_writes (latest_writes ws ++ w ∷ []) ≡ latest_writes (ws ++ w ∷ [])
latest_and_more ws w = grind (arith, nat_tests, latest_writes-more, with_write, latest_of_distinct, latest_writes-distinct)

-- the buffer of one write more
pub buffer_taken : (ws : List Change) (i : ℕ) (w copy : Change) (old new : List Change) → i < length ws → w ≡ get_or ws i w → copy ≡ w →
    new ≡ latest_writes (old ++ copy ∷ []) → old ≡ latest_writes (take i ws) → new ≡ latest_writes (take (i + 1) ws)
buffer_taken ws i w copy old new below at same made so_far = grind (arith, nat_tests, take-suc, latest_and_more)

-- ---- a write at its place

-- the write at this place, counted from j, is replaced by the new one
abbrev IsPlaced : Change → List Change → ℕ → ℕ → Type 0
IsPlaced w ws j i = (k : ℕ) × (i ≡ j + k) × (k < length ws) × (with_write w ws ≡ set ws k w)

placed_from : (w : Change) (ws : List Change) (j i : ℕ) → position_from (λ x. bytes_eq (key_of x) (key_of w)) j ws ≡ Some i → IsPlaced w ws j i
placed_from w [] j i found = absurd (cc)
placed_from w (x ∷ ws) j i found = by (bytes_eq (key_of x) (key_of w)) (bytes_eq-flip (key_of w) (key_of x)) (placed_from w ws (j + 1) i) found
  where
    by : (b : Bool) → bytes_eq (key_of w) (key_of x) ≡ b →
        (position_from (λ y. bytes_eq (key_of y) (key_of w)) (j + 1) ws ≡ Some i → IsPlaced w ws (j + 1) i) →
        cond b (Some j) (position_from (λ y. bytes_eq (key_of y) (key_of w)) (j + 1) ws) ≡ Some i → IsPlaced w (x ∷ ws) j i
    by true same rest at =
        let first : j ≡ i = same_Some j i at in
        (0, omega (arith, first), omega arith, ap (λ b. cond b (w ∷ ws) (x ∷ with_write w ws)) same)
    by false other rest at =
        let r : IsPlaced w ws (j + 1) i = rest at in
        (suc r.0, omega (arith, r.1), omega (arith, r.2), ap (λ b. cond b (w ∷ ws) (x ∷ with_write w ws)) other ∙ ap (λ l. x ∷ l) r.3)

new_from : (w : Change) (ws : List Change) (j : ℕ) → position_from (λ x. bytes_eq (key_of x) (key_of w)) j ws ≡ None → with_write w ws ≡ ws ++ w ∷ []
new_from w [] j none = refl
new_from w (x ∷ ws) j none = grind (arith, nat_tests, bytes_eq-flip, with_write, new_from w ws (j + 1))

-- one write more of writes of distinct keys
more_of_distinct : (w : Change) (ws : List Change) → IsDistinct bytes_eq (map key_of ws) → with_write w ws ≡ latest_writes (ws ++ w ∷ [])
more_of_distinct w ws distinct = ap (with_write w) (sym (latest_of_distinct ws distinct)) ∙ sym (latest_writes-more ws w)

-- in the place of its key's
pub replaced_write : (w : Change) (ws : List Change) (i : ℕ) → IsDistinct bytes_eq (map key_of ws) →
    position (λ x. bytes_eq (key_of x) (key_of w)) ws ≡ Some i → (i < length ws) × (set ws i w ≡ latest_writes (ws ++ w ∷ []))
replaced_write w ws i distinct found = grind (arith, nat_tests, placed_from, position_from-zero, more_of_distinct)

-- or at the end
pub added_write : (w : Change) (ws : List Change) → IsDistinct bytes_eq (map key_of ws) →
    position (λ x. bytes_eq (key_of x) (key_of w)) ws ≡ None → ws ++ w ∷ [] ≡ latest_writes (ws ++ w ∷ [])
added_write w ws distinct none = grind (arith, nat_tests, new_from, position_from-zero, more_of_distinct)

-- the latest writes are of distinct keys
pub distinct_latest : (ws latest : List Change) → latest ≡ latest_writes ws → IsDistinct bytes_eq (map key_of latest)
distinct_latest ws latest same = subst (λ (l : List Change). IsDistinct bytes_eq (map key_of l)) (sym same) (latest_writes-distinct ws)

pub distinct_none : (ws : List Change) → ws ≡ [] → IsDistinct bytes_eq (map key_of ws)
unfolding IsDistinct
distinct_none ws none = subst (λ (l : List Change). IsDistinct bytes_eq (map key_of l)) (sym none) tt

-- ---- whether writes are of distinct keys

-- a key that none of these writes has is new among theirs
new_among : (key : List ℕ) (ws : List Change) (j : ℕ) → position_from (λ w. bytes_eq (key_of w) key) j ws ≡ None → IsNew key ws
new_among key [] j none = tt
new_among key (w ∷ ws) j none = grind (arith, nat_tests, bytes_eq-flip, new_among key ws (j + 1))

apart_from : (w : Change) (ws : List Change) → position (λ v. bytes_eq (key_of v) (key_of w)) ws ≡ None → IsDistinct bytes_eq (map key_of ws) →
    IsDistinct bytes_eq (map key_of (w ∷ ws))
unfolding IsDistinct
apart_from w ws none distinct = (
  new_among (key_of w) ws 0 (sym (position_from-zero (λ x. bytes_eq (key_of x) (key_of w)) ws) ∙ none),
  distinct,
)

-- the first write and the others
split : (ws : List Change) (first : Change) → 1 ≤ length ws → first ≡ get_or ws 0 first → first ∷ take (length ws - 1) (drop 1 ws) ≡ ws
split [] first some is = absurd (omega arith)
split (w ∷ ws) first some is =
    let rest : take (length (w ∷ ws) - 1) (drop 1 (w ∷ ws)) ≡ ws = take_rest (w ∷ ws) 1 in
    λ i. is i ∷ rest i

-- the first write is of no other's key, and the others are of distinct keys
pub apart_with_first : (ws : List Change) (first : Change) (key : List ℕ) → 1 ≤ length ws → first ≡ get_or ws 0 first → key ≡ key_of first →
    position (λ v. bytes_eq (key_of v) key) (take (length ws - 1) (drop 1 ws)) ≡ None →
    IsDistinct bytes_eq (map key_of (take (length ws - 1) (drop 1 ws))) → IsDistinct bytes_eq (map key_of ws)
apart_with_first ws first key some is same none distinct =
    let rest : List Change = take (length ws - 1) (drop 1 ws) in
    subst (λ (l : List Change). IsDistinct bytes_eq (map key_of l)) (split ws first some is)
    (apart_from first rest (ap (λ (k : List ℕ). position (λ v. bytes_eq (key_of v) k) rest) (sym same) ∙ none) distinct)

pub apart_where_none : (ws : List Change) → length ws < 1 → IsDistinct bytes_eq (map key_of ws)
unfolding IsDistinct
apart_where_none [] short = tt
apart_where_none (w ∷ ws) short = absurd (omega arith)

pub none_found : (o : Option ℕ) (b : Bool) → is_some o ≡ not b → b ≡ true → o ≡ None
none_found o b is holds = grind (arith, nat_tests)
