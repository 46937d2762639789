-- Revisions that show the same events are the same.
use Rattle.std.proofs.Common.{◌≡◌, ◌≢◌, ℕ, true, false, nat_eq, subst, ◌+◌, ◌<◌, ◌≤◌, List, [], ◌∷◌, length, map, Option, Some, None, refl, sym, ◌∙◌, ap, arith}
use Rattle.std.proofs.lemmas.Bool.Decides.{nat_tests}
use Rattle.stm_history.specs.declared.change.Change.{Change}
use Rattle.stm_history.specs.declared.change.Change.TheVariants.{Put, Del}
use Rattle.stm_history.specs.declared.key_state.KeyState.{KeyState}
use Rattle.stm_history.specs.Opening.{Opening}
use Rattle.stm_history.specs.History.{History, now, number_of_last, key_after, state_after_put}
use Rattle.stm_world.proofs.Slots.{equal_numbers, differ}
use Rattle.stm_keys.specs.declared.event.Event.TheVariants.{Put as PutEvent}
use Rattle.stm_keys.specs.Events.{event_of, events_above, events_numbered, events_of, change_of_event}

shows_put : (number : ℕ) (key value : List ℕ) (lease : ℕ) (before : Option KeyState) →
    change_of_event (PutEvent key (state_after_put number value lease before)) ≡ Put key value lease
shows_put number key value lease None = refl
shows_put number key value lease (Some s) = refl

shows_change : (number : ℕ) (before : List ℕ → Option KeyState) (c : Change) → change_of_event (event_of number before c) ≡ c
shows_change number before (Put key value lease) = shows_put number key value lease (before key)
shows_change number before (Del key) = refl

show_changes : (number : ℕ) (before : List ℕ → Option KeyState) (cs : List Change) → map change_of_event (map (event_of number before) cs) ≡ cs
show_changes number before [] = refl
show_changes number before (c ∷ cs) =
    ap (λ x. x ∷ map change_of_event (map (event_of number before) cs)) (shows_change number before c) ∙ ap (λ xs. c ∷ xs) (show_changes number before cs)

above : (opening : Opening) (changes : List Change) (older : List (List Change)) → map change_of_event (events_above opening changes older) ≡ changes
above opening changes older = show_changes (number_of_last opening (changes ∷ older)) (λ key. key_after opening key older) changes

newest : (opening : Opening) (n : ℕ) (changes : List Change) (older : List (List Change)) → number_of_last opening (changes ∷ older) ≡ n →
    events_numbered opening n (changes ∷ older) ≡ events_above opening changes older
newest opening n changes older is = grind (arith, nat_tests)

further : (opening : Opening) (n : ℕ) (changes : List Change) (older : List (List Change)) → n ≤ opening.number + length older →
    events_numbered opening n (changes ∷ older) ≡ events_numbered opening n older
further opening n changes older below = grind (arith, nat_tests)

pub same_revisions : (opening : Opening) (xs ys : List (List Change)) → length xs ≡ length ys →
    ((k : ℕ) → opening.number < k → k ≤ opening.number + length xs → events_numbered opening k xs ≡ events_numbered opening k ys) → xs ≡ ys
same_revisions opening [] [] long each = refl
same_revisions opening [] (y ∷ ys) long each = absurd (omega arith)
same_revisions opening (x ∷ xs) [] long each = absurd (omega arith)
same_revisions opening (x ∷ xs) (y ∷ ys) long each =
    let shorter : length xs ≡ length ys = omega arith in
    let n : ℕ = number_of_last opening (x ∷ xs) in
    let head : x ≡ y =
    sym (above opening x xs) ∙ ap (map change_of_event) (sym (newest opening n x xs refl) ∙ each n (omega arith) (omega arith) ∙ newest opening n y ys (omega arith)) ∙ above opening y ys in
    let tail : xs ≡ ys =
    same_revisions opening xs ys shorter (λ k over within.
    sym (further opening k x xs within) ∙ each k over (omega arith) ∙ further opening k y ys (omega arith)) in
    ap (λ z. z ∷ xs) head ∙ ap (λ zs. y ∷ zs) tail

-- ---- histories

abbrev pub AreSameTo : ℕ → History → History → Type 0
AreSameTo n h g = (k : ℕ) → h.opening.number < k → k ≤ n → events_of h k ≡ events_of g k

pub none_yet : (n : ℕ) (h g : History) → n ≡ h.opening.number → AreSameTo n h g
none_yet n h g is = λ k over within. absurd (omega (arith, is, over, within))

pub one_more : (n : ℕ) (h g : History) → events_of h (n + 1) ≡ events_of g (n + 1) → AreSameTo n h g → AreSameTo (n + 1) h g
one_more n h g here so_far = λ k over within.
    elim (nat_eq k (n + 1)) as (λ b. nat_eq k (n + 1) ≡ b → events_of h k ≡ events_of g k) [
      | true ↦ λ e. subst (λ j. events_of h j ≡ events_of g j) (sym (equal_numbers k (n + 1) e)) here
      | false ↦ λ e. let other : k ≢ n + 1 = differ k (n + 1) e in so_far k over (omega arith)
    ] refl

pub all_same : (n last : ℕ) (h g : History) → last ≡ now h → last ≡ now g → last ≤ n → AreSameTo n h g → h.opening ≡ g.opening → h.revisions ≡ g.revisions
all_same n last h g one two within each opens =
    let numbers : h.opening.number ≡ g.opening.number = ap (λ (o : Opening). o.number) opens in
    same_revisions h.opening h.revisions g.revisions (omega (arith, one, two, numbers)) (λ k over there.
    each k over (omega (arith, one, within)) ∙ ap (λ o. events_numbered o k g.revisions) (sym opens))
