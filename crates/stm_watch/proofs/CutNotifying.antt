-- What a watcher is notified of once the oldest revisions are dropped, and once it was notified of more.
use Rattle.std.proofs.Common.{◌≡◌, ℕ, zero, suc, ◌-◌, ◌≤◌, ◌<◌, max, Bool, false, cond, List, [], ◌∷◌, ◌++◌, map, take, Option, Some, None}
use Rattle.std.proofs.Common.{refl, sym, ◌∙◌, ap, arith, inl, inr}
use Rattle.std.specs.Prelude.{nat_lt}
use Rattle.std.proofs.lemmas.Bool.{cases_lt, lt-ltb, le-ltb, ltb-true, ltb-false, Decides.nat_tests}
use Rattle.stm_history.specs.declared.change.Change.{Change}
use Rattle.stm_history.specs.declared.key_state.KeyState.{KeyState}
use Rattle.stm_history.specs.Opening.{Opening, opened_state}
use Rattle.stm_history.specs.History.{History, number_of_last, now, key_after, revisions_up_to}
use Rattle.stm_history.specs.Cut.{revisions_above, cut}
use Rattle.stm_history.proofs.HistoryLaws.{last_is_above}
use Rattle.stm_history.proofs.CutLaws.{taken_above, none_above, next_number, cut_key, cut_off, cut_at_the_opening, opened_by_cut}
use Rattle.stm_keys.specs.declared.event.Event.{Event}
use Rattle.stm_keys.specs.Events.{event_of, events_above}
use Rattle.stm_watch.specs.declared.pending_revision.PendingRevision.{PendingRevision}
use Rattle.stm_watch.specs.declared.watched.Watched.{Watched}
use Rattle.stm_watch.specs.Watching.{Watching}
use Rattle.stm_watch.specs.Places.{is_lost}
use Rattle.stm_watch.specs.Pending.{matching, pending_of_revision, pending_above, number_of_first, first_pending, last_number, after_poll}
use Rattle.stm_watch.proofs.Notifying.{nothing_above, from_the_later, head_is}

-- what a watcher sees of a revision with these events
abbrev part_of : ℕ → Watched → List Event → Bool → List PendingRevision
part_of number watched events above = cond above (pending_of_revision number (matching watched events)) []

-- ---- a history without its oldest revisions

same_event : (number : ℕ) (old new : List ℕ → Option KeyState) (c : Change) → ((key : List ℕ) → old key ≡ new key) → event_of number old c ≡ event_of number new c
same_event number old new c same = grind (arith, nat_tests)

same_events : (number : ℕ) (old new : List ℕ → Option KeyState) (cs : List Change) → ((key : List ℕ) → old key ≡ new key)
    → map (event_of number old) cs ≡ map (event_of number new) cs
same_events number old new [] same = refl
same_events number old new (c ∷ cs) same = grind (arith, nat_tests, same_event, same_events number old new cs same)

-- above a number that both are below, it does not matter which one was seen
same_test : (seen below number : ℕ) → below < number → nat_lt seen number ≡ nat_lt (max seen below) number
same_test seen below number less = grind (arith, nat_tests, cases_lt, lt-ltb, le-ltb)

-- one opening above another, on the way of these revisions
module _ (old new : Opening) (above : old.number ≤ new.number) (seen : ℕ) (watched : Watched) where
  reported_above_cut : (revisions : List (List Change)) → new.number ≤ number_of_last old revisions
      → ((key : List ℕ) → opened_state new key ≡ key_after old key (revisions_up_to old new.number revisions))
      → pending_above new seen watched (revisions_above old new.number revisions) ≡ pending_above old (max seen new.number) watched revisions
  reported_above_cut [] reached opened = refl
  reported_above_cut (changes ∷ older) reached opened =
      let part : List (List Change) = revisions_above old new.number older in
      let n : ℕ = number_of_last old (changes ∷ older) in
      let before : List PendingRevision = pending_above old (max seen new.number) watched older in
      elim (cases_lt new.number n) [
        | inl less ↦
            let still : (key : List ℕ) → opened_state new key ≡ key_after old key (revisions_up_to old new.number older) =
            λ key. opened key ∙ ap (key_after old key) (last_is_above old new.number changes older less) in
            ap (pending_above new seen watched) (taken_above old new.number changes older less)
            ∙ ap (λ (ts : List PendingRevision). ts ++ part_of (number_of_last new (changes ∷ part)) watched (events_above new changes part)
            (nat_lt seen (number_of_last new (changes ∷ part))))
            (reported_above_cut older (omega (arith, less)) still)
            ∙ ap (λ (m : ℕ). before ++ part_of m watched (map (event_of m (λ key. key_after new key part)) changes) (nat_lt seen m))
            (next_number old new above changes older (omega (arith, less)))
            ∙ ap (λ (es : List Event). before ++ part_of n watched es (nat_lt seen n))
            (same_events n (λ key. key_after new key part) (λ key. key_after old key older) changes
            (λ key. cut_key old new above key older (omega (arith, less)) (still key)))
            ∙ ap (λ b. before ++ part_of n watched (events_above old changes older) b) (same_test seen new.number n less)
        | inr more ↦
            ap (pending_above new seen watched) (none_above old new.number changes older more)
            ∙ sym (nothing_above old (max seen new.number) watched (changes ∷ older) (omega (arith, more)))
      ]

-- A history that was cut shows what the whole one shows above the cut.
pub reported_cut : (h : History) (number seen : ℕ) (watched : Watched) → number ≤ now h →
    pending_above (cut number h).opening seen watched (cut number h).revisions ≡ pending_above h.opening (max seen number) watched h.revisions
reported_cut h number seen watched reached = grind (arith, nat_tests, cases_lt, cut_off, reported_above_cut, opened_by_cut, cut_at_the_opening, from_the_later)

-- ---- a watcher that is not lost

first_part : (floor : ℕ) (ts us : List PendingRevision) → is_lost floor (number_of_first (ts ++ us)) ≡ false → is_lost floor (number_of_first ts) ≡ false
first_part floor ts us not = grind (arith, nat_tests)

none_below : (floor number : ℕ) (es : List Event) (b : Bool) → number < floor → is_lost floor (number_of_first (cond b (pending_of_revision number es) [])) ≡ false
    → cond b (pending_of_revision number es) [] ≡ []
none_below floor number es b less not = grind (arith, nat_tests, lt-ltb)

-- what is below the floor is passed over
passed_over : (floor : ℕ) (opening : Opening) (seen below : ℕ) (watched : Watched) (revisions : List (List Change)) → below < floor
    → is_lost floor (number_of_first (pending_above opening seen watched revisions)) ≡ false
    → pending_above opening (max seen below) watched revisions ≡ pending_above opening seen watched revisions
passed_over floor opening seen below watched [] less not = refl
passed_over floor opening seen below watched (changes ∷ older) less not =
    let n : ℕ = number_of_last opening (changes ∷ older) in
    let shown : List Event = events_above opening changes older in
    let before : List PendingRevision = pending_above opening seen watched older in
    let same : pending_above opening (max seen below) watched older ≡ before =
    passed_over floor opening seen below watched older less (first_part floor before (part_of n watched shown (nat_lt seen n)) not) in
    elim (cases_lt below n) [
      | inl above ↦
          ap (λ (ts : List PendingRevision). ts ++ part_of n watched shown (nat_lt (max seen below) n)) same
          ∙ ap (λ b. before ++ part_of n watched shown b) (sym (same_test seen below n above))
      | inr within ↦
          let none : before ≡ [] = sym same ∙ nothing_above opening (max seen below) watched older (omega (arith, within)) in
          let not_last : is_lost floor (number_of_first (part_of n watched shown (nat_lt seen n))) ≡ false =
          ap (λ (ts : List PendingRevision). is_lost floor (number_of_first (ts ++ part_of n watched shown (nat_lt seen n)))) (sym none) ∙ not in
          nothing_above opening (max seen below) watched (changes ∷ older) (omega (arith, within))
          ∙ sym (ap (λ (ts : List PendingRevision). ts ++ part_of n watched shown (nat_lt seen n)) none
          ∙ none_below floor n (matching watched shown) (nat_lt seen n) (omega (arith, within, less)) not_last)
    ]

-- A watcher that is not lost at a floor sees the same once the revisions below the floor are dropped.
pub followed_cut : (h : History) (floor seen : ℕ) (watched : Watched) → floor ≤ now h
    → is_lost floor (number_of_first (pending_above h.opening seen watched h.revisions)) ≡ false
    → pending_above (cut (floor - 1) h).opening seen watched (cut (floor - 1) h).revisions ≡ pending_above h.opening seen watched h.revisions
followed_cut h floor seen watched reached not = grind (arith, nat_tests, cases_lt, reported_cut, passed_over)

-- nothing is pending of revisions up to the one that was seen
first_case : (floor : ℕ) (opening : Opening) (seen : ℕ) (watched : Watched) (revisions : List (List Change)) (o : Option ℕ) → floor ≤ suc seen
    → number_of_first (pending_above opening seen watched revisions) ≡ o → is_lost floor o ≡ false
first_case floor opening seen watched revisions None le is = refl
first_case floor opening seen watched revisions (Some number) le is =
    le-ltb number floor (omega (arith, le, (head_is opening seen watched revisions number is).later))

pub seen_not_lost : (floor : ℕ) (opening : Opening) (seen : ℕ) (watched : Watched) (revisions : List (List Change)) → floor ≤ suc seen
    → is_lost floor (number_of_first (pending_above opening seen watched revisions)) ≡ false
seen_not_lost floor opening seen watched revisions le = grind (arith, nat_tests, first_case)

-- ---- a watcher that was notified of more

both_parts : (floor : ℕ) (ts us : List PendingRevision) → is_lost floor (number_of_first ts) ≡ false → is_lost floor (number_of_first us) ≡ false
    → is_lost floor (number_of_first (ts ++ us)) ≡ false
both_parts floor ts us first second = grind (arith, nat_tests)

low_part : (floor number : ℕ) (es : List Event) (b : Bool) → nat_lt number floor ≡ false → is_lost floor (number_of_first (cond b (pending_of_revision number es) [])) ≡ false
low_part floor number es b not = grind (arith, nat_tests)

module _ (floor : ℕ) (opening : Opening) (seen later : ℕ) (watched : Watched) (le : seen ≤ later) where
  last_not_lost : (changes : List Change) (older : List (List Change)) (before : List PendingRevision) → pending_above opening seen watched older ≡ before
      → is_lost floor (number_of_first (before
      ++ part_of (number_of_last opening (changes ∷ older)) watched (events_above opening changes older) (nat_lt seen (number_of_last opening (changes ∷ older)))))
      ≡ false
      → is_lost floor (number_of_first (part_of (number_of_last opening (changes ∷ older)) watched (events_above opening changes older)
      (nat_lt later (number_of_last opening (changes ∷ older))))) ≡ false
  last_not_lost changes older [] is not =
      let n : ℕ = number_of_last opening (changes ∷ older) in
      elim (cases_lt later n) [
        | inl less ↦
            ap (λ b. is_lost floor (number_of_first (part_of n watched (events_above opening changes older) b)))
            (lt-ltb later n less ∙ sym (lt-ltb seen n (omega (arith, le, less))))
            ∙ not
        | inr more ↦ ap (λ b. is_lost floor (number_of_first (part_of n watched (events_above opening changes older) b))) (le-ltb later n more)
      ]
  last_not_lost changes older (t ∷ ts) is not =
      let n : ℕ = number_of_last opening (changes ∷ older) in
      let reached = (head_is opening seen watched older t.number (ap number_of_first is)).reached in
      low_part floor n (matching watched (events_above opening changes older)) (nat_lt later n)
      (le-ltb n floor (omega (arith, reached, ltb-false t.number floor not)))

  -- it stays so
  not_lost_later : (revisions : List (List Change)) → is_lost floor (number_of_first (pending_above opening seen watched revisions)) ≡ false
      → is_lost floor (number_of_first (pending_above opening later watched revisions)) ≡ false
  not_lost_later [] not = refl
  not_lost_later (changes ∷ older) not =
      let n : ℕ = number_of_last opening (changes ∷ older) in
      let shown : List Event = events_above opening changes older in
      both_parts floor (pending_above opening later watched older) (part_of n watched shown (nat_lt later n))
      (not_lost_later older (first_part floor (pending_above opening seen watched older) (part_of n watched shown (nat_lt seen n)) not))
      (last_not_lost changes older (pending_above opening seen watched older) refl not)

-- ---- up to where a poll reports

abbrev AreAbove : ℕ → List PendingRevision → Type 0
AreAbove seen [] = Unit {0}
AreAbove seen (t ∷ ts) = (seen < t.number) × AreAbove seen ts

above_append : (seen : ℕ) (ts us : List PendingRevision) → AreAbove seen ts → AreAbove seen us → AreAbove seen (ts ++ us)
above_append seen [] us first second = second
above_append seen (t ∷ ts) us first second = (first.0, above_append seen ts us first.1 second)

above_part : (seen number : ℕ) (es : List Event) (b : Bool) → nat_lt seen number ≡ b → AreAbove seen (cond b (pending_of_revision number es) [])
above_part seen number es b less = grind (arith, nat_tests, ltb-true)

reported_are_above : (opening : Opening) (seen : ℕ) (watched : Watched) (revisions : List (List Change)) → AreAbove seen (pending_above opening seen watched revisions)
reported_are_above opening seen watched [] = tt
reported_are_above opening seen watched (changes ∷ older) = grind (arith, nat_tests, above_append, above_part, reported_are_above opening seen watched older)

above_take : (seen most : ℕ) (ts : List PendingRevision) → AreAbove seen ts → AreAbove seen (take most ts)
above_take seen zero ts above = tt
above_take seen (suc most) [] above = tt
above_take seen (suc most) (t ∷ ts) above = (above.0, above_take seen most ts above.1)

last_later : (seen last : ℕ) (ts : List PendingRevision) → seen ≤ last → AreAbove seen ts → seen ≤ last_number last ts
last_later seen last [] le above = le
last_later seen last (t ∷ ts) le above = last_later seen t.number ts (omega (arith, above.0)) above.1

-- A poll loses no watcher.
pub polled_not_lost : (floor most : ℕ) (h : History) (w : Watching) → is_lost floor (first_pending h w) ≡ false
    → is_lost floor (first_pending h (after_poll most h w)) ≡ false
polled_not_lost floor most h w not = grind (arith, nat_tests, not_lost_later, last_later, above_take, reported_are_above)
