-- The revisions of a history one after the other, and what is left of them where it is cut.
use Rattle.std.proofs.Common.{◌≡◌, ℕ, ◌+◌, ◌≤◌, ◌<◌, inl, inr, Bool, true, false, cond, List, [], ◌∷◌, ◌++◌, map, refl, sym, ◌∙◌, ap, arith, length-append}
use Rattle.std.specs.Prelude.{nat_eq, if◌then◌else◌}
use Rattle.std.proofs.lemmas.Bool.{cases_lt, le-ltb, Decides.nat_tests}
use Rattle.stm_history.specs.declared.change.Change.{Change}
use Rattle.stm_history.specs.Opening.{Opening}
use Rattle.stm_history.specs.History.{History, now, number_of_last, revisions_up_to, key_after}
use Rattle.stm_history.specs.Cut.{cut, revisions_above, opening_of_cut}
use Rattle.stm_history.proofs.HistoryLaws.{all_up_to, last_is_above}
use Rattle.stm_history.proofs.CutLaws.{cut_off, next_number, taken_above, none_above}
use Rattle.stm_keys.specs.declared.event.Event.{Event}
use Rattle.stm_keys.specs.Events.{change_of_event, events_above, events_numbered, events_of}
use Rattle.stm_keys.proofs.Recorded.{changes_shown}

-- the changes of the revision with a number, none where there is no such revision
abbrev pub changes_numbered : Opening → ℕ → List (List Change) → List Change
changes_numbered opening number [] = []
changes_numbered opening number (changes ∷ older) =
    if nat_eq (number_of_last opening (changes ∷ older)) number then changes else changes_numbered opening number older

show_by : (b : Bool) (events rest : List Event) (changes others : List Change) → map change_of_event events ≡ changes → map change_of_event rest ≡ others →
    map change_of_event (cond b events rest) ≡ cond b changes others
show_by true events rest changes others these those = these
show_by false events rest changes others these those = those

-- events show them
pub show_changes : (opening : Opening) (number : ℕ) (revisions : List (List Change)) →
    map change_of_event (events_numbered opening number revisions) ≡ changes_numbered opening number revisions
show_changes opening number [] = refl
show_changes opening number (changes ∷ older) =
    show_by (nat_eq (number_of_last opening (changes ∷ older)) number) (events_above opening changes older) (events_numbered opening number older) changes
    (changes_numbered opening number older) (changes_shown (number_of_last opening (changes ∷ older)) (λ key. key_after opening key older) changes)
    (show_changes opening number older)

none_beyond : (opening : Opening) (number : ℕ) (revisions : List (List Change)) → number_of_last opening revisions < number →
    changes_numbered opening number revisions ≡ []
none_beyond opening number [] above = refl
none_beyond opening number (changes ∷ older) above = grind (arith, nat_tests, none_beyond opening number older)

-- one more of the revisions up to a number is the next one
pub next_up_to : (opening : Opening) (number : ℕ) (revisions : List (List Change)) → opening.number ≤ number → number < number_of_last opening revisions →
    revisions_up_to opening (number + 1) revisions ≡ changes_numbered opening (number + 1) revisions ∷ revisions_up_to opening number revisions
next_up_to opening number [] opened below = absurd (omega arith)
next_up_to opening number (changes ∷ older) opened below =
    grind (arith, nat_tests, all_up_to, last_is_above, next_up_to opening number older opened)

-- a cut below a revision leaves its changes
pub above_cut : (old new : Opening) → old.number ≤ new.number → (number : ℕ) → new.number < number → (revisions : List (List Change)) →
    new.number ≤ number_of_last old revisions →
    changes_numbered new number (revisions_above old new.number revisions) ≡ changes_numbered old number revisions
above_cut old new above number later [] reached = refl
above_cut old new above number later (changes ∷ older) reached =
    elim (cases_lt new.number (number_of_last old (changes ∷ older))) [
      | inl less ↦
          ap (changes_numbered new number) (taken_above old new.number changes older less)
          ∙ ap (λ (n : ℕ). cond (nat_eq n number) changes (changes_numbered new number (revisions_above old new.number older)))
          (next_number old new above changes older (omega (arith, less)))
          ∙ ap (λ (l : List Change). cond (nat_eq (number_of_last old (changes ∷ older)) number) changes l)
          (above_cut old new above number later older (omega (arith, less)))
      | inr more ↦
          ap (changes_numbered new number) (none_above old new.number changes older more)
          ∙ sym (none_beyond old number (changes ∷ older) (omega (arith, more, later)))
    ]

pub cut_leaves : (below : ℕ) (h : History) (number : ℕ) → below < number → below ≤ now h →
    map change_of_event (events_of (cut below h) number) ≡ changes_numbered h.opening number h.revisions
cut_leaves below h number later reached =
    elim (cases_lt h.opening.number below) [
      | inl less ↦
          ap (λ (g : History). map change_of_event (events_of g number)) (cut_off below h less)
          ∙ show_changes (opening_of_cut below h) number (revisions_above h.opening below h.revisions)
          ∙ above_cut h.opening (opening_of_cut below h) (omega (arith, less)) number later h.revisions reached
      | inr more ↦ grind (arith, nat_tests, le-ltb, show_changes)
    ]

-- what more revisions leave of those up to a number
pub up_to_stays : (added older : List (List Change)) (opening : Opening) (number : ℕ) → number ≤ number_of_last opening older →
    revisions_up_to opening number (added ++ older) ≡ revisions_up_to opening number older
up_to_stays [] older opening number within = refl
up_to_stays (changes ∷ added) older opening number within =
    grind (arith, nat_tests, last_is_above, length-append, up_to_stays added older opening number within)
