-- The first compare that fails, looked for one after another.
use Rattle.std.proofs.Common.{◌≡◌, ℕ, zero, suc, ◌+◌, ◌≤◌, List, [], ◌∷◌, ◌++◌, map, length, drop, Bool, true, false, cond, Option, Some}
use Rattle.std.proofs.Common.{None, ◌↔◌, refl, sym, ◌∙◌, ap, arith}
use Rattle.std.proofs.lemmas.Bool.{false≢true, Decides.nat_tests}
use Rattle.std.specs.Prelude.{slice_get}
use Rattle.stm_history.specs.declared.key_state.KeyState.{KeyState}
use Rattle.stm_history.specs.History.{mod_of}
use Rattle.stm_outcome.specs.declared.txn.Compare.{Compare}
use Rattle.stm_outcome.specs.declared.answer.FailedCompare.{FailedCompare}
use Rattle.stm_outcome.specs.Compares.{holds, first_failed}
use Rattle.stm_outcome.specs.Commits.{mod_is, mod_is_below}
use Rattle.stm_outcome.proofs.Applying.{mod_compares}

-- ---- a list from a place on

drop_at : {X : Type 0} (xs : List X) (i : ℕ) (x : X) → slice_get xs i ≡ Some x → drop i xs ≡ x ∷ drop (suc i) xs
drop_at [] i x at = absurd (cc)
drop_at (y ∷ ys) zero x at = let same : y ≡ x = cc in ap (λ (z : _). z ∷ ys) same
drop_at (y ∷ ys) (suc i) x at = drop_at ys i x at

drop_all : {X : Type 0} (xs : List X) (i : ℕ) → length xs ≤ i → drop i xs ≡ []
drop_all [] zero all = refl
drop_all [] (suc i) all = refl
drop_all (x ∷ xs) zero all = let more : suc (length xs) ≤ zero = all in absurd (omega (arith, more))
drop_all (x ∷ xs) (suc i) all = let more : suc (length xs) ≤ suc i = all in let fewer : length xs ≤ i = omega (arith, more) in drop_all xs i fewer

-- ---- a compare of a list

abbrev found_at : ℕ → ℕ → Option FailedCompare
found_at index modified = Some (record { index = index; mod_rev = modified })

here : {X : Type 0} (state : List ℕ → Option KeyState) (f : X → Compare) (xs : List X) (before i : ℕ) (x : X) (b : Bool) → slice_get xs i ≡ Some x →
    holds (f x) (state (f x).key) ≡ b →
    first_failed state (before + i) (map f (drop i xs))
    ≡ cond b (first_failed state (before + i + 1) (map f (drop (suc i) xs))) (found_at (before + i) (mod_of (state (f x).key)))
here state f xs before i x b at is = grind (arith, nat_tests, drop_at)

-- one holds, so the failed one is looked for after it
pub passed_by : {X : Type 0} (state : List ℕ → Option KeyState) (f : X → Compare) (xs : List X) (before i : ℕ) (x : X) (found : Option FailedCompare) →
    slice_get xs i ≡ Some x → holds (f x) (state (f x).key) ≡ true → first_failed state (before + i) (map f (drop i xs)) ≡ found →
    first_failed state (before + (i + 1)) (map f (drop (i + 1) xs)) ≡ found
passed_by state f xs before i x found at holds_here so_far =
    let step : i + 1 ≡ suc i = omega arith in
    let count : before + (i + 1) ≡ before + i + 1 = omega arith in
    ap (λ (n : ℕ). first_failed state n (map f (drop (i + 1) xs))) count
    ∙ ap (λ (n : ℕ). first_failed state (before + i + 1) (map f (drop n xs))) step
    ∙ sym (here state f xs before i x true at holds_here) ∙ so_far

-- one fails, and is found
pub failed_here : {X : Type 0} (state : List ℕ → Option KeyState) (f : X → Compare) (xs : List X) (before i : ℕ) (x : X) (index modified : ℕ)
    (found : Option FailedCompare) → slice_get xs i ≡ Some x → holds (f x) (state (f x).key) ≡ false → index ≡ before + i →
    modified ≡ mod_of (state (f x).key) → first_failed state (before + i) (map f (drop i xs)) ≡ found →
    found_at index modified ≡ found
failed_here state f xs before i x index modified found at fails place reported so_far =
    ap (λ (n : ℕ). found_at n modified) place
    ∙ ap (λ (n : ℕ). found_at (before + i) n) reported
    ∙ sym (here state f xs before i x false at fails) ∙ so_far

-- all hold
pub none_fails : {X : Type 0} (state : List ℕ → Option KeyState) (f : X → Compare) (xs : List X) (before i : ℕ) (found : Option FailedCompare) →
    length xs ≤ i → first_failed state (before + i) (map f (drop i xs)) ≡ found → None ≡ found
none_fails state f xs before i found all so_far = grind (arith, nat_tests, drop_all)

-- ---- one list after another

pub fails_first : (state : List ℕ → Option KeyState) (from : ℕ) (cs ds : List Compare) (f : FailedCompare) → first_failed state from cs ≡ Some f →
    first_failed state from (cs ++ ds) ≡ Some f
fails_first state from [] ds f is = absurd (cc)
fails_first state from (c ∷ cs) ds f is = grind (arith, nat_tests, fails_first state (from + 1) cs ds f)

pub fails_after : (state : List ℕ → Option KeyState) (from behind : ℕ) (cs ds : List Compare) → first_failed state from cs ≡ None →
    behind ≡ from + length cs → first_failed state from (cs ++ ds) ≡ first_failed state behind ds
fails_after state from behind [] ds none is =
    let there : behind ≡ from + zero = is in
    let same : from ≡ behind = omega (arith, there) in
    ap (λ (n : ℕ). first_failed state n ds) same
fails_after state from behind (c ∷ cs) ds none is =
    let there : behind ≡ from + suc (length cs) = is in
    let next : behind ≡ (from + 1) + length cs = omega (arith, there) in
    by (holds c (state c.key)) none (λ later. fails_after state (from + 1) behind cs ds later next)
  where
    by : (b : Bool) → cond b (first_failed state (from + 1) cs) (found_at from (mod_of (state c.key))) ≡ None →
        (first_failed state (from + 1) cs ≡ None → first_failed state (from + 1) (cs ++ ds) ≡ first_failed state behind ds) →
        cond b (first_failed state (from + 1) (cs ++ ds)) (found_at from (mod_of (state c.key))) ≡ first_failed state behind ds
    by true all later = later all
    by false all later = absurd (cc)

-- ---- the compares of a commit

not_so : {P : Type 0} (b : Bool) → (b ≡ true) ↔ P → b ≡ false → P → ⊥
not_so b reported isnt p = false≢true (sym isnt ∙ reported.1 p)

does_not : (b : Bool) → (b ≡ true → ⊥) → b ≡ false
does_not b isnt = grind (arith, nat_tests)

-- by what is reported of a key that was read
pub read_holds : (key : List ℕ) (number : ℕ) (s : Option KeyState) (reported : Bool) → (reported ≡ true) ↔ (mod_of s ≡ number) → reported ≡ true →
    holds (mod_is key number) s ≡ true
read_holds key number s reported means so = (mod_compares.equal key number s).1 (means.0 so)

pub read_fails : (key : List ℕ) (number : ℕ) (s : Option KeyState) (reported : Bool) → (reported ≡ true) ↔ (mod_of s ≡ number) → reported ≡ false →
    holds (mod_is key number) s ≡ false
read_fails key number s reported means isnt = grind (arith, nat_tests, does_not, not_so)

-- and of one that is written
pub write_holds : (key : List ℕ) (first : ℕ) (s : Option KeyState) (reported : Bool) → (reported ≡ true) ↔ (mod_of s ≤ first) → reported ≡ true →
    holds (mod_is_below key (first + 1)) s ≡ true
write_holds key first s reported means so = grind (arith, nat_tests)

pub write_fails : (key : List ℕ) (first : ℕ) (s : Option KeyState) (reported : Bool) → (reported ≡ true) ↔ (mod_of s ≤ first) → reported ≡ false →
    holds (mod_is_below key (first + 1)) s ≡ false
write_fails key first s reported means isnt = grind (arith, nat_tests, does_not, not_so)
