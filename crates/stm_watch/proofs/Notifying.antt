-- The revisions that a watcher is notified of, one after the other.
use Rattle.std.proofs.Common.{◌≡◌, ℕ, ◌+◌, ◌≤◌, ◌<◌, max, Bool, cond, ◌&&◌, List, [], ◌∷◌, ◌++◌, map, Option, Some, None}
use Rattle.std.proofs.Common.{is_some, refl, sym, ◌∙◌, ap, arith, eq-eqb}
use Rattle.std.specs.Prelude.{nat_lt, bytes_eq}
use Rattle.std.specs.Option.{option_or}
use Rattle.std.specs.List.{list_any}
use Rattle.std.proofs.lemmas.Bool.{cases_Bool, cases_lt, lt-ltb, le-ltb, ltb-true, Decides.nat_tests}
use Rattle.std.proofs.lemmas.Option.{same_Some}
use Rattle.std.proofs.lemmas.Slice.Eq.{bytes_eq-Decides}
use Rattle.stm_history.specs.declared.change.Change.{Change}
use Rattle.stm_history.specs.declared.key_state.KeyState.{KeyState}
use Rattle.stm_history.specs.Opening.{Opening}
use Rattle.stm_history.specs.History.{History, number_of_last, now, add_revision, key_of, change_of, key_after}
use Rattle.stm_keys.specs.declared.event.Event.{Event}
use Rattle.stm_keys.specs.Events.{event_of, events_above, events_numbered, key_of_event, change_of_event}
use Rattle.stm_keys.specs.NextChange.{changed_above, first_change, changes_key, changes_any, is_between}
use Rattle.stm_watch.specs.declared.pending_revision.PendingRevision.{PendingRevision}
use Rattle.stm_watch.specs.declared.watched.Watched.{Watched}
use Rattle.stm_watch.specs.declared.watched.Watched.TheVariants.{Key, Range}
use Rattle.stm_watch.specs.Watching.{Watching}
use Rattle.stm_watch.specs.Keys.{is_watched, is_any_watched}
use Rattle.stm_watch.specs.Pending.{matching, pending_of_revision, pending_above, number_of_first, first_pending, is_any_pending}
use Rattle.stm_watch.specs.Touch.{first_with}

-- what is pending of the last of these revisions
abbrev last_part : Opening → ℕ → Watched → List Change → List (List Change) → Bool → List PendingRevision
last_part opening number watched changes older above = cond above (pending_of_revision number (matching watched (events_above opening changes older))) []

-- nothing is pending above the last revision
pub nothing_above : (opening : Opening) (seen : ℕ) (watched : Watched) (revisions : List (List Change)) → number_of_last opening revisions ≤ seen
    → pending_above opening seen watched revisions ≡ []
nothing_above opening seen watched [] above = refl
nothing_above opening seen watched (changes ∷ older) above = grind (arith, nat_tests, le-ltb, nothing_above opening seen watched older (omega arith))

-- all revisions are above the opening number
from_opening : (opening : Opening) (seen : ℕ) (watched : Watched) (revisions : List (List Change)) → seen ≤ opening.number
    → pending_above opening seen watched revisions ≡ pending_above opening opening.number watched revisions
from_opening opening seen watched [] below = refl
from_opening opening seen watched (changes ∷ older) below = grind (arith, nat_tests, lt-ltb, from_opening opening seen watched older below)

pub from_the_later : (opening : Opening) (seen : ℕ) (watched : Watched) (revisions : List (List Change)) →
    pending_above opening seen watched revisions ≡ pending_above opening (max seen opening.number) watched revisions
from_the_later opening seen watched revisions = grind (arith, nat_tests, cases_lt, from_opening)

-- ---- whether something is pending

key_of_shown : (n : ℕ) (before : List ℕ → Option KeyState) (c : Change) → key_of_event (event_of n before c) ≡ key_of c
key_of_shown n before c = grind (arith, nat_tests)

-- a revision is pending where a key that it changes is watched
any_reported : (number n : ℕ) (before : List ℕ → Option KeyState) (watched : Watched) (changes : List Change) →
    is_any_pending (pending_of_revision number (matching watched (map (event_of n before) changes))) ≡ is_any_watched watched changes
any_reported number n before watched [] = refl
any_reported number n before watched (c ∷ cs) = grind (arith, nat_tests, key_of_shown, any_reported number n before watched cs)

key_shown : (e : Event) → key_of_event e ≡ key_of (change_of_event e)
key_shown e = grind (arith, nat_tests)

-- the keys of events are those of the changes that they show
pub any_shown : (watched : Watched) (events : List Event) →
    list_any (λ e. is_watched watched (key_of_event e)) events ≡ is_any_watched watched (map change_of_event events)
any_shown watched [] = refl
any_shown watched (e ∷ es) = grind (arith, nat_tests, key_shown, any_shown watched es)

-- ---- the first revision that is pending

pub some_first : (ts : List PendingRevision) → is_some (number_of_first ts) ≡ is_any_pending ts
some_first ts = grind (arith, nat_tests)

first_append : (ts us : List PendingRevision) → number_of_first (ts ++ us) ≡ option_or (number_of_first ts) (number_of_first us)
first_append ts us = grind (arith, nat_tests)

first_of_last : (b : Bool) (number : ℕ) (found : List Event) (any : Bool) → is_any_pending (pending_of_revision number found) ≡ any
    → number_of_first (cond b (pending_of_revision number found) []) ≡ cond (b && any) (Some number) None
first_of_last b number found any same = grind (arith, nat_tests)

-- one more revision is the first where none was pending, and it changes something that was not seen
pub first_after : (h : History) (changes : List Change) (w : Watching) (revision : ℕ) → revision ≡ now h + 1 →
    first_pending (add_revision h changes) w ≡ first_with revision (nat_lt w.seen revision && is_any_watched w.watched changes) (first_pending h w)
first_after h changes w revision is =
    let n = number_of_last h.opening (changes ∷ h.revisions) in
    let same : n ≡ revision = omega arith in
    first_append (pending_above h.opening w.seen w.watched h.revisions) (last_part h.opening n w.watched changes h.revisions (nat_lt w.seen n))
    ∙ ap (option_or (first_pending h w)) (
    first_of_last (nat_lt w.seen n) n (matching w.watched (events_above h.opening changes h.revisions)) (is_any_watched w.watched changes)
    (any_reported n n (λ key. key_after h.opening key h.revisions) w.watched changes)
    ∙ ap (λ (m : ℕ). cond (nat_lt w.seen m && is_any_watched w.watched changes) (Some m) None) same
    )

-- ---- the next change of what is watched

bytes_turned : (a b : List ℕ) → bytes_eq a b ≡ bytes_eq b a
bytes_turned a b = grind (arith, nat_tests, cases_Bool, bytes_eq-Decides)

any_of_key : (key : List ℕ) (cs : List Change) → is_any_watched (Key key) cs ≡ is_some (change_of key cs)
any_of_key key [] = refl
any_of_key key (c ∷ cs) = grind (arith, nat_tests, bytes_turned, any_of_key key cs)

-- the next revision that changes what is watched is the next one of which a watcher is notified
next_watched : (opening : Opening) (above : ℕ) (watched : Watched) (passes : List Change → Bool) → ((cs : List Change) → is_any_watched watched cs ≡ passes cs) →
    (revisions : List (List Change)) → first_change opening above passes revisions ≡ number_of_first (pending_above opening above watched revisions)
next_watched opening above watched passes same [] = refl
next_watched opening above watched passes same (changes ∷ older) =
    let n = number_of_last opening (changes ∷ older) in
    let before : Option ℕ = number_of_first (pending_above opening above watched older) in
    ap (λ (o : Option ℕ). option_or o (changed_above above passes n changes)) (next_watched opening above watched passes same older)
    ∙ ap (λ b. option_or before (cond (nat_lt above n && b) (Some n) None)) (sym (same changes))
    ∙ ap (option_or before)
    (sym (first_of_last (nat_lt above n) n (matching watched (events_above opening changes older)) (is_any_watched watched changes)
    (any_reported n n (λ k. key_after opening k older) watched changes)))
    ∙ sym (first_append (pending_above opening above watched older) (last_part opening n watched changes older (nat_lt above n)))

pub next_of_key : (opening : Opening) (above : ℕ) (key : List ℕ) (revisions : List (List Change)) →
    first_change opening above (changes_key key) revisions ≡ number_of_first (pending_above opening above (Key key) revisions)
next_of_key opening above key = next_watched opening above (Key key) (changes_key key) (any_of_key key)

pub next_of_range : (opening : Opening) (above : ℕ) (first end : List ℕ) (revisions : List (List Change)) →
    first_change opening above (changes_any (is_between first end)) revisions ≡ number_of_first (pending_above opening above (Range first end) revisions)
next_of_range opening above first end = next_watched opening above (Range first end) (changes_any (is_between first end)) (λ cs. refl)

-- ---- what is pending of the first revision, and what is pending after it

abbrev reported : ℕ → List Event → PendingRevision
reported number events = record { number = number; events = events }

pub record IsHead (opening : Opening) (seen : ℕ) (watched : Watched) (revisions : List (List Change)) (number : ℕ) : Type 0 where
  pub later : seen < number
  pub reached : number ≤ number_of_last opening revisions
  pub is : pending_above opening seen watched revisions
      ≡ reported number (matching watched (events_numbered opening number revisions)) ∷ pending_above opening number watched revisions

module _ (opening : Opening) (seen : ℕ) (watched : Watched) (changes : List Change) (older : List (List Change)) (number : ℕ) where
  abbrev last : ℕ
  last = number_of_last opening (changes ∷ older)

  abbrev shown : List Event
  shown = events_above opening changes older

  head_by : (ts : List PendingRevision) → pending_above opening seen watched older ≡ ts
      → (number_of_first ts ≡ Some number → IsHead opening seen watched older number)
      → (b : Bool) → nat_lt seen last ≡ b → number_of_first (ts ++ last_part opening last watched changes older b) ≡ Some number
      → IsHead opening seen watched (changes ∷ older) number
  head_by ts same before b later first = grind (arith, nat_tests, lt-ltb, same_Some, ltb-true, eq-eqb, nothing_above)

pub head_is : (opening : Opening) (seen : ℕ) (watched : Watched) (revisions : List (List Change)) (number : ℕ)
    → number_of_first (pending_above opening seen watched revisions) ≡ Some number → IsHead opening seen watched revisions number
head_is opening seen watched [] number is = absurd (cc)
head_is opening seen watched (changes ∷ older) number is =
    head_by opening seen watched changes older number (pending_above opening seen watched older) refl (head_is opening seen watched older number)
    (nat_lt seen (number_of_last opening (changes ∷ older))) refl is
