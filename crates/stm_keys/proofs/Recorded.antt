-- Recorded events against the history that they record.
use Rattle.std.proofs.Common.{◌≡◌, ℕ, ◌+◌, ◌≤◌, ◌<◌, Bool, true, false, List, [], ◌∷◌, ◌++◌, length, map, Option, Some, None, suc, refl, sym, ◌∙◌, ap, subst}
use Rattle.std.proofs.Common.{arith, cond, eq-eqb, is_some}
use Rattle.std.specs.Prelude.{bytes_eq}
use Rattle.std.proofs.lemmas.List.{length-map, length-append}
use Rattle.std.proofs.lemmas.Slice.Eq.{bytes_eq-Decides}
use Rattle.std.proofs.lemmas.Bool.Decides.{nat_tests}
use Rattle.stm_history.specs.declared.change.Change.{Change}
use Rattle.stm_history.specs.declared.key_state.KeyState.{KeyState}
use Rattle.stm_history.specs.declared.revisions.TheConstants.{HIGHEST_REVISION}
use Rattle.stm_history.specs.Opening.{Opening, opened_state}
use Rattle.stm_history.specs.History.{number_of_last, key_of, change_of, key_after, after_change, HasDistinctKeys, IsRevision}
use Rattle.stm_history.proofs.HistoryLaws.{one_more}
use Rattle.stm_keys.specs.declared.event.Event.{Event}
use Rattle.stm_keys.specs.Events.{event_of, events_above, events_numbered, key_of_event, event_about, after_event, change_of_event, AreApart}
use Rattle.stm_keys.specs.Keys.{changes_of, all_events, state_recorded, IsKept}
use Rattle.stm_keys.specs.Chains.{Chain, versions_in, with_version}

-- equal bytes are one text
same_text : (a b : List ℕ) → bytes_eq a b ≡ true → a ≡ b
same_text a b equal = (bytes_eq-Decides a b).0 equal

-- the event of a change is about the change's key, and shows the change
pub key_of_event-event_of : (n : ℕ) (before : List ℕ → Option KeyState) (c : Change) → key_of_event (event_of n before c) ≡ key_of c
key_of_event-event_of n before c = grind (arith, nat_tests)

change_of_event-event_of : (n : ℕ) (before : List ℕ → Option KeyState) (c : Change) → change_of_event (event_of n before c) ≡ c
change_of_event-event_of n before c = grind (arith, nat_tests)

pub changes_shown : (n : ℕ) (before : List ℕ → Option KeyState) (cs : List Change) → map change_of_event (map (event_of n before) cs) ≡ cs
changes_shown n before [] = refl
changes_shown n before (c ∷ cs) = grind (arith, nat_tests, change_of_event-event_of, changes_shown n before cs)

-- the event of a change depends on its key alone
event_of_same : (n : ℕ) (s t : List ℕ → Option KeyState) (c : Change) → ((key : List ℕ) → s key ≡ t key) → event_of n s c ≡ event_of n t c
event_of_same n s t c same = grind (arith, nat_tests)

pub events_same : (n : ℕ) (s t : List ℕ → Option KeyState) (cs : List Change) → ((key : List ℕ) → s key ≡ t key) → map (event_of n s) cs ≡ map (event_of n t) cs
events_same n s t [] same = refl
events_same n s t (c ∷ cs) same = grind (arith, nat_tests, event_of_same, events_same n s t cs same)

about_case : (b : Bool) (n : ℕ) (before : List ℕ → Option KeyState) (key : List ℕ) (c : Change) (e : Option Event) (d : Option Change)
    → (b ≡ true → key_of c ≡ key) →
    after_event e (before key) ≡ after_change n d (before key) →
    after_event (cond b (Some (event_of n before c)) e) (before key) ≡ after_change n (cond b (Some c) d) (before key)
about_case b n before key c e d same rest = grind (arith, nat_tests)

-- what the events of a revision make of a key is what its changes make of it
pub after_about : (n : ℕ) (before : List ℕ → Option KeyState) (key : List ℕ) (cs : List Change) →
    after_event (event_about key (map (event_of n before) cs)) (before key) ≡ after_change n (change_of key cs) (before key)
after_about n before key [] = refl
after_about n before key (c ∷ cs) = grind (arith, nat_tests, key_of_event-event_of, about_case, same_text, after_about n before key cs)

-- a walk back over the recorded events finds what the key is
pub recorded_state : (opening : Opening) (key : List ℕ) (revisions : List (List Change)) →
    state_recorded (opened_state opening key) key (all_events opening revisions) ≡ key_after opening key revisions
recorded_state opening key [] = refl
recorded_state opening key (changes ∷ older) =
    ap (after_event (event_about key (events_above opening changes older))) (recorded_state opening key older)
    ∙ after_about (number_of_last opening (changes ∷ older)) (λ q. key_after opening q older) key changes
    ∙ sym (one_more opening key changes older)

-- the older of recorded revisions are recorded as they are without the newer ones
pub older_recorded : (opening : Opening) (newer older : List (List Event)) → newer ++ older ≡ all_events opening (changes_of (newer ++ older)) →
    older ≡ all_events opening (changes_of older)
older_recorded opening [] older is = is
older_recorded opening (r ∷ newer) older is = older_recorded opening newer older (cc)

-- the events of a number are those of the revision that stands there
number_case : (b : Bool) (events rest x : List Event) → b ≡ true → events ≡ x → cond b events rest ≡ x
number_case b events rest x holds same = grind (arith, nat_tests)

later_case : (b : Bool) (events rest x : List Event) → b ≡ false → rest ≡ x → cond b events rest ≡ x
later_case b events rest x fails same = grind (arith, nat_tests)

length-changes_of : (recorded : List (List Event)) → length (changes_of recorded) ≡ length recorded
length-changes_of recorded = length-map recorded (map change_of_event)

pub numbered : (opening : Opening) (r : ℕ) (newer : List (List Event)) (x : List Event) (older : List (List Event))
    → newer ++ x ∷ older ≡ all_events opening (changes_of (newer ++ x ∷ older)) →
    r ≡ opening.number + suc (length older) → events_numbered opening r (changes_of (newer ++ x ∷ older)) ≡ x
numbered opening r [] x older is place = grind (arith, nat_tests, number_case, eq-eqb, length-changes_of)
numbered opening r (y ∷ newer) x older is place =
    grind (arith, nat_tests, length-changes_of, later_case, length-append, numbered opening r newer x older (cc) place)

-- no revision has a number at or below the opening one
pub none_numbered : (opening : Opening) (r : ℕ) (revisions : List (List Change)) → r ≤ opening.number → events_numbered opening r revisions ≡ []
none_numbered opening r [] below = refl
none_numbered opening r (changes ∷ older) below = grind (arith, nat_tests, later_case, none_numbered opening r older below)

-- the events of changes of distinct keys are apart
none_case : (b : Bool) (n : ℕ) (before : List ℕ → Option KeyState) (c : Change) (o : Option Change) (e : Option Event) → cond b (Some c) o ≡ None →
    (o ≡ None → e ≡ None) → cond b (Some (event_of n before c)) e ≡ None
none_case b n before c o e none rest = grind (arith, nat_tests)

none_about : (n : ℕ) (before : List ℕ → Option KeyState) (key : List ℕ) (cs : List Change) → change_of key cs ≡ None →
    event_about key (map (event_of n before) cs) ≡ None
none_about n before key [] none = refl
none_about n before key (c ∷ cs) none = grind (arith, nat_tests, key_of_event-event_of, none_case, none_about n before key cs)

pub events_apart : (n : ℕ) (before : List ℕ → Option KeyState) (cs : List Change) → HasDistinctKeys cs → AreApart (map (event_of n before) cs)
events_apart n before [] distinct = tt
events_apart n before (c ∷ cs) distinct = (
  ap (λ k. event_about k (map (event_of n before) cs)) (key_of_event-event_of n before c) ∙ none_about n before (key_of c) cs distinct.0,
  events_apart n before cs distinct.1,
)

-- one more revision keeps what a key store keeps
pub kept_after : (opening : Opening) (recorded : List (List Event)) (chains next : List ℕ → Option Chain) (before : List ℕ → Option KeyState)
    (changes : List Change) (events : List Event) →
    IsKept opening recorded chains → opening.number + length recorded < HIGHEST_REVISION → IsRevision changes →
    ((key : List ℕ) → before key ≡ key_after opening key (changes_of recorded)) →
    events ≡ map (event_of (opening.number + suc (length recorded)) before) changes →
    ((key : List ℕ) → versions_in (next key)
    ≡ with_version (is_some (event_about key events)) (opening.number + suc (length recorded)) (versions_in (chains key))) →
    IsKept opening (events ∷ recorded) next
kept_after opening recorded chains next before changes events kept room revision now made noted =
    let n : ℕ = opening.number + suc (length recorded) in
    let older : List (List Change) = changes_of recorded in
    let number : n ≡ opening.number + suc (length older) = omega (arith, length-changes_of recorded) in
    let shown : map change_of_event events ≡ changes = ap (map change_of_event) made ∙ changes_shown n before changes in
    let above : events ≡ events_above opening changes older =
    made ∙ events_same n before (λ key. key_after opening key older) changes now
    ∙ ap (λ m. map (event_of m (λ key. key_after opening key older)) changes) number in
    record {
      positive = kept.positive;
      bounded = omega (arith, kept.bounded);
      shaped = (subst IsRevision (sym shown) revision, kept.shaped);
      events =
          ap (λ e. e ∷ recorded) above
          ∙ ap (λ r. events_above opening changes older ∷ r) kept.events
          ∙ ap (λ cs. events_above opening cs older ∷ all_events opening older) (sym shown);
      versions = λ key. noted key ∙ ap (with_version (is_some (event_about key events)) n) (kept.versions key);
    }

-- the history after one more recorded revision
pub shown_after : (number : ℕ) (recorded : List (List Event)) (before : List ℕ → Option KeyState) (changes : List Change) (events : List Event) →
    events ≡ map (event_of number before) changes → changes_of (events ∷ recorded) ≡ changes ∷ changes_of recorded
shown_after number recorded before changes events made =
    ap (λ cs. cs ∷ changes_of recorded) (ap (map change_of_event) made ∙ changes_shown number before changes)
