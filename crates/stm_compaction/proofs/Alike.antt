-- A history without the revisions below a floor shows from there on what the whole one does.
use mathlib.Core.Path.{fun_ext}
use Rattle.std.proofs.Common.{◌≡◌, ℕ, ◌-◌, ◌≤◌, ◌<◌, List, [], ◌∷◌, Option, refl, sym, ◌∙◌, ap, arith, cond, inl, inr}
use Rattle.std.specs.Prelude.{◌==◌, map}
use Rattle.std.proofs.lemmas.Bool.{cases_lt, ne_eqb, Decides.nat_tests}
use Rattle.stm_history.specs.declared.change.Change.{Change}
use Rattle.stm_history.specs.declared.key_state.KeyState.{KeyState}
use Rattle.stm_history.specs.Opening.{Opening, opened_state}
use Rattle.stm_history.specs.History.{History, number_of_last, now, key_now, key_at, key_after, revisions_up_to}
use Rattle.stm_history.specs.Cut.{revisions_above, cut}
use Rattle.stm_history.proofs.HistoryLaws.{last_is_above}
use Rattle.stm_history.proofs.CutLaws.{taken_above, none_above, next_number, cut_key, cut_off, cut_at_the_opening, opened_by_cut}
use Rattle.stm_history.proofs.CutLaws.{cut_keeps_now, cut_keeps_keys_now, cut_shows_the_same}
use Rattle.stm_keys.specs.declared.event.Event.{Event}
use Rattle.stm_keys.specs.Events.{event_of, events_above, events_numbered, events_of}

-- ---- the events of revisions

-- a history has no events above its last revision
none_numbered : (opening : Opening) (n : ℕ) (revisions : List (List Change)) → number_of_last opening revisions < n → events_numbered opening n revisions ≡ []
none_numbered opening n [] above = refl
none_numbered opening n (changes ∷ older) above = grind (arith, nat_tests, ne_eqb, none_numbered opening n older (omega (arith, above)))

-- what the keys were at one opening, on the way of these revisions, they are at another
abbrev pub OpensThere : Opening → Opening → List (List Change) → Type 0
OpensThere old new revisions = (key : List ℕ) → opened_state new key ≡ key_after old key (revisions_up_to old new.number revisions)

module _ (old new : Opening) (above : old.number ≤ new.number) where
  -- the same without the last revision, where that is above the opening
  pub opens_there : (changes : List Change) (older : List (List Change)) → new.number < number_of_last old (changes ∷ older) →
      OpensThere old new (changes ∷ older) → OpensThere old new older
  opens_there changes older less opened key = opened key ∙ ap (key_after old key) (last_is_above old new.number changes older less)

  pub same_events_above : (changes : List Change) (older : List (List Change)) → new.number ≤ number_of_last old older → OpensThere old new older →
      events_above new changes (revisions_above old new.number older) ≡ events_above old changes older
  same_events_above changes older reached opened =
      let part : List (List Change) = revisions_above old new.number older in
      ap (λ (n : ℕ). map (event_of n (λ key. key_after new key part)) changes) (next_number old new above changes older reached)
      ∙ ap (λ (before : List ℕ → Option KeyState). map (event_of (number_of_last old (changes ∷ older)) before) changes)
      (fun_ext (λ key. cut_key old new above key older reached (opened key)))

  pub same_events : (n : ℕ) (revisions : List (List Change)) → new.number < n → new.number ≤ number_of_last old revisions →
      OpensThere old new revisions → events_numbered new n (revisions_above old new.number revisions) ≡ events_numbered old n revisions
  same_events n [] later reached opened = refl
  same_events n (changes ∷ older) later reached opened =
      let part : List (List Change) = revisions_above old new.number older in
      let last : ℕ = number_of_last old (changes ∷ older) in
      elim (cases_lt new.number (number_of_last old (changes ∷ older))) [
        | inl less ↦
            let earlier : new.number ≤ number_of_last old older = omega (arith, less) in
            let opens : OpensThere old new older = opens_there changes older less opened in
            ap (events_numbered new n) (taken_above old new.number changes older less)
            ∙ ap (λ (m : ℕ). cond (m == n) (events_above new changes part) (events_numbered new n part)) (next_number old new above changes older earlier)
            ∙ ap (λ (es : List Event). cond (last == n) es (events_numbered new n part)) (same_events_above changes older earlier opens)
            ∙ ap (λ (es : List Event). cond (last == n) (events_above old changes older) es) (same_events n older later earlier opens)
        | inr passed ↦
            ap (events_numbered new n) (none_above old new.number changes older passed)
            ∙ sym (none_numbered old n (changes ∷ older) (omega (arith, passed, later)))
      ]

-- ---- what a history shows

-- One history shows what another does: the counter, the keys now, and from a floor on the keys at each revision, and its events.
pub record IsAlike (floor : ℕ) (g h : History) : Type 0 where
  pub counter : now g ≡ now h
  pub keys_now : key_now g ≡ key_now h
  pub keys_at : (key : List ℕ) (r : ℕ) → floor ≤ r → key_at g key r ≡ key_at h key r
  pub events : (n : ℕ) → floor ≤ n → events_of g n ≡ events_of h n

from_floor : (floor n : ℕ) (h : History) → floor ≤ now h → floor ≤ n → events_of (cut (floor - 1) h) n ≡ events_of h n
from_floor floor n h reached later = grind (arith, nat_tests, cut_at_the_opening, cases_lt, cut_off, same_events, opened_by_cut)

pub cut_is_alike : (floor : ℕ) (h : History) → floor ≤ now h → IsAlike floor (cut (floor - 1) h) h
cut_is_alike floor h reached = grind (arith, nat_tests, cut_keeps_now, cut_keeps_keys_now, cut_shows_the_same, from_floor)
