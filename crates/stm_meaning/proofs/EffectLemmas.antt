-- What the effect of writes leaves of a key.
use Rattle.std.proofs.Common.{◌≡◌, ℕ, Bool, true, false, cond, List, [], ◌∷◌, Option, None, Some, map, filter, sym, ◌∙◌, ap, arith}
use Rattle.std.specs.Prelude.{bytes_eq}
use Rattle.std.specs.List.{IsDistinct, AllByRecursion}
use Rattle.std.proofs.lemmas.Bool.Decides.{nat_tests}
use Rattle.stm_history.specs.declared.change.Change.{Change}
use Rattle.stm_history.specs.History.{key_of}
use Rattle.stm_program.specs.Writes.{last_write}
use Rattle.stm_program.proofs.WriteLemmas.{bytes_eq-flip, bytes_eq-same, or_else, last_write-none, last_write-one, last_write-append}
use Rattle.stm_program.proofs.LatestLemmas.{latest_writes-last, latest_writes-distinct}
use Rattle.stm_meaning.specs.Writes.{effect}
use Rattle.stm_meaning.specs.EffectLaw.{kept_by, EffectLeavesLastWrites}

or_else-none : (r : Option Change) → or_else r None ≡ r
or_else-none r = grind (arith, nat_tests)

-- the last write of a key comes after the first write, or is it
last_write-cons : (key : List ℕ) (w : Change) (ws : List Change) →
    last_write key (w ∷ ws) ≡ or_else (last_write key ws) (cond (bytes_eq (key_of w) key) (Some w) None)
last_write-cons key w ws = last_write-append key (w ∷ []) ws ∙ ap (λ o. or_else (last_write key ws) o) (last_write-one key w)

-- a key that differs from all keys of these writes is not written
unwritten : (key k : List ℕ) (ws : List Change) → AllByRecursion (λ other. bytes_eq k other ≡ false) (map key_of ws) → k ≡ key → last_write key ws ≡ None
unwritten key k [] apart same = last_write-none key
unwritten key k (w ∷ ws) apart same = grind (arith, nat_tests, bytes_eq-flip, last_write-cons, or_else, unwritten key k ws apart.1 same)

module _ (test : Change → Bool) where
  -- the first write passes the test
  first_kept : (here : Bool) (w : Change) (r : Option Change) → test w ≡ true → (here ≡ true → r ≡ None) →
      or_else (kept_by test r) (cond here (Some w) None) ≡ kept_by test (or_else r (cond here (Some w) None))
  first_kept here w r passes alone = grind (arith, nat_tests, or_else, or_else-none)

  -- or not
  first_dropped : (here : Bool) (w : Change) (r : Option Change) → test w ≡ false → (here ≡ true → r ≡ None) →
      kept_by test r ≡ kept_by test (or_else r (cond here (Some w) None))
  first_dropped here w r fails alone = grind (arith, nat_tests, or_else, or_else-none)

  filtered-first : (b : Bool) (key : List ℕ) (w : Change) (ws : List Change) → test w ≡ b →
      AllByRecursion (λ other. bytes_eq (key_of w) other ≡ false) (map key_of ws) →
      last_write key (filter test ws) ≡ kept_by test (last_write key ws) →
      last_write key (cond b (w ∷ filter test ws) (filter test ws)) ≡ kept_by test (or_else (last_write key ws) (cond (bytes_eq (key_of w) key) (Some w) None))
  filtered-first true key w ws is apart rest =
      last_write-cons key w (filter test ws)
      ∙ ap (λ o. or_else o (cond (bytes_eq (key_of w) key) (Some w) None)) rest
      ∙ first_kept (bytes_eq (key_of w) key) w (last_write key ws) is (λ here. unwritten key (key_of w) ws apart (bytes_eq-same (key_of w) key here))
  filtered-first false key w ws is apart rest =
      rest ∙ first_dropped (bytes_eq (key_of w) key) w (last_write key ws) is (λ here. unwritten key (key_of w) ws apart (bytes_eq-same (key_of w) key here))

  -- of writes with distinct keys those that pass the test are kept
  filtered : (key : List ℕ) (ws : List Change) → IsDistinct bytes_eq (map key_of ws) → last_write key (filter test ws) ≡ kept_by test (last_write key ws)
  unfolding IsDistinct
  filtered key [] distinct = last_write-none key ∙ sym (ap (λ o. kept_by test o) (last_write-none key))
  filtered key (w ∷ ws) distinct = grind (arith, nat_tests, filtered-first, last_write-cons, filtered key ws distinct.1)

pub effect_leaves_last_writes : EffectLeavesLastWrites
unfolding effect
effect_leaves_last_writes is_present writes key = grind (arith, nat_tests, filtered, latest_writes-distinct, latest_writes-last)
