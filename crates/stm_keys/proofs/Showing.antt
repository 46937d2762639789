-- Each event of a revision shows its key at that revision.
use Rattle.std.proofs.Common.{◌≡◌, ℕ, ◌<◌, Bool, true, false, List, [], ◌∷◌, map, Option, Some, None, refl, sym, ◌∙◌, ap, subst, arith, cond, eqb-true, inl}
use Rattle.std.proofs.Common.{inr}
use Rattle.std.specs.Prelude.{nat_eq}
use Rattle.std.specs.List.{AllByRecursion}
use Rattle.std.proofs.lemmas.Bool.{cases_lt, eqb-false, Decides.nat_tests}
use Rattle.std.proofs.lemmas.Slice.Eq.{bytes_eq-Decides}
use Rattle.stm_history.specs.declared.change.Change.{Change}
use Rattle.stm_history.specs.declared.key_state.KeyState.{KeyState}
use Rattle.stm_history.specs.Opening.{Opening}
use Rattle.stm_history.specs.History.{History, number_of_last, key_of, change_of, key_after, key_at, after_change, HasDistinctKeys, AreRevisions}
use Rattle.stm_history.proofs.HistoryLaws.{one_more, all_up_to, last_is_above}
use Rattle.stm_keys.specs.declared.event.Event.{Event}
use Rattle.stm_keys.specs.Events.{event_of, events_above, events_numbered, Shows}
use Rattle.stm_keys.specs.Laws.{EventsShow}

-- what holds of each element follows from what does
each : {X : Type 0} (P Q : X → Type 0) (xs : List X) → ((x : X) → P x → Q x) → AllByRecursion P xs → AllByRecursion Q xs
each P Q [] from all = tt
each P Q (x ∷ xs) from all = (from x all.0, each P Q xs from all.1)

each_mapped : {X Y : Type 0} (f : X → Y) (P : X → Type 0) (Q : Y → Type 0) (xs : List X) → ((x : X) → P x → Q (f x)) → AllByRecursion P xs
    → AllByRecursion Q (map f xs)
each_mapped f P Q [] from all = tt
each_mapped f P Q (x ∷ xs) from all = (from x all.0, each_mapped f P Q xs from all.1)

-- of distinct keys each change is the one that is found by its key
found_later : (c d : Change) (cs : List Change) → change_of (key_of c) cs ≡ None → change_of (key_of d) cs ≡ Some d → change_of (key_of d) (c ∷ cs) ≡ Some d
found_later c d cs absent found = grind (arith, nat_tests, bytes_eq-Decides)

found : (cs : List Change) → HasDistinctKeys cs → AllByRecursion (λ c. change_of (key_of c) cs ≡ Some c) cs
found [] apart = tt
found (c ∷ cs) apart = grind (arith, nat_tests, bytes_eq-Decides, each, found_later, found cs apart.1)

-- the event of the change that was found shows the key
shows_change : (h : History) (n : ℕ) (before : List ℕ → Option KeyState) (c : Change) →
    key_at h (key_of c) n ≡ after_change n (Some c) (before (key_of c)) → Shows h n (event_of n before c)
shows_change h n before c is = grind (arith, nat_tests)

-- the last revision's events
last_shows : (opening : Opening) (changes : List Change) (older : List (List Change)) (number : ℕ) → HasDistinctKeys changes
    → number_of_last opening (changes ∷ older) ≡ number →
    AllByRecursion (Shows (record { opening = opening; revisions = changes ∷ older }) number) (events_above opening changes older)
last_shows opening changes older number apart same =
    let h : History = record { opening = opening; revisions = changes ∷ older } in
    let n : ℕ = number_of_last opening (changes ∷ older) in
    let before : List ℕ → Option KeyState = λ key. key_after opening key older in
    subst (λ (m : ℕ). AllByRecursion (Shows h m) (events_above opening changes older)) same
    (each_mapped (event_of n before) (λ c. change_of (key_of c) changes ≡ Some c) (Shows h n) changes
    (λ c is. shows_change h n before c
    (ap (key_after opening (key_of c)) (all_up_to opening n (changes ∷ older) (omega arith))
    ∙ one_more opening (key_of c) changes older
    ∙ ap (λ o. after_change n o (before (key_of c))) is))
    (found changes apart))

-- there are no events above the last revision
pub none_above : (opening : Opening) (number : ℕ) (revisions : List (List Change)) → number_of_last opening revisions < number → events_numbered opening number revisions ≡ []
none_above opening number [] above = refl
none_above opening number (changes ∷ older) above = grind (arith, nat_tests, eqb-true, none_above opening number older (omega arith))

-- an event goes on to show its key under a newer revision
still_shows : (h newer : History) (number : ℕ) → ((key : List ℕ) → key_at newer key number ≡ key_at h key number) → (e : Event) → Shows h number e
    → Shows newer number e
still_shows h newer number same e is = grind (arith, nat_tests)

shows : (opening : Opening) (number : ℕ) (revisions : List (List Change)) → AreRevisions revisions →
    AllByRecursion (Shows (record { opening = opening; revisions = revisions }) number) (events_numbered opening number revisions)
shows opening number [] are = tt
shows opening number (changes ∷ older) are = by_test (nat_eq (number_of_last opening (changes ∷ older)) number) refl (shows opening number older are.1)
  where
    below : AllByRecursion (Shows (record { opening = opening; revisions = older }) number) (events_numbered opening number older)
        → number < number_of_last opening (changes ∷ older) →
        AllByRecursion (Shows (record { opening = opening; revisions = changes ∷ older }) number) (events_numbered opening number older)
    below rest less =
        each (Shows (record { opening = opening; revisions = older }) number) (Shows (record { opening = opening; revisions = changes ∷ older }) number)
        (events_numbered opening number older)
        (still_shows (record { opening = opening; revisions = older }) (record { opening = opening; revisions = changes ∷ older }) number
        (λ key. ap (key_after opening key) (last_is_above opening number changes older less))) rest

    by_test : (b : Bool) → nat_eq (number_of_last opening (changes ∷ older)) number ≡ b
        → AllByRecursion (Shows (record { opening = opening; revisions = older }) number) (events_numbered opening number older) →
        AllByRecursion (Shows (record { opening = opening; revisions = changes ∷ older }) number)
        (cond b (events_above opening changes older) (events_numbered opening number older))
    by_test true same rest = last_shows opening changes older number are.0.1 (eqb-true (number_of_last opening (changes ∷ older)) number same)
    by_test false differs rest = elim (cases_lt number (number_of_last opening (changes ∷ older))) [
      | inl less ↦ below rest less
      | inr more ↦
          let apart = eqb-false (number_of_last opening (changes ∷ older)) number differs in
          subst (λ (es : List Event). AllByRecursion (Shows (record { opening = opening; revisions = changes ∷ older }) number) es)
          (sym (none_above opening number older (omega arith))) tt
    ]

pub events_show : EventsShow
events_show h number are = shows h.opening number h.revisions are
