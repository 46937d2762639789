-- What the versions of a chain show of its key.
use Rattle.std.proofs.Common.{◌≡◌, ℕ, ◌+◌, ◌≤◌, ◌<◌, Bool, true, false, List, [], ◌∷◌, ◌++◌, length, map, reverse, take, drop, get_or, Option, Some, None}
use Rattle.std.proofs.Common.{suc, refl, sym, ◌∙◌, ap, subst, Result, OnErr, ◌-◌, zero, arith, cond, IfSome, is_some, eq-eqb, ltb}
use Rattle.std.specs.Prelude.{nat_lt, nat_eq, slice_get, string_bytes}
use Rattle.std.specs.HashMap.{HashMap}
use Rattle.std.specs.declared.string.String.{String}
use Rattle.std.specs.Ordering.{nat_cmp}
use Rattle.std.specs.Cmp.Lexicographic.{slice_cmp}
use Rattle.std.specs.FinMap.{find}
use Rattle.std.proofs.lemmas.Bool.{cases_lt, ltb-true, lt-ltb, le-ltb, Decides.nat_tests}
use Rattle.std.specs.List.Sorted.{IsNonDecreasing, IsPartitionPoint}
use Rattle.std.proofs.lemmas.List.{length-map, length-reverse, length-take-le, length-append, reverse-append, get_or_push, get_or_default, take_all, take_more}
use Rattle.std.proofs.lemmas.List.Sorted.{IsNonDecreasingBy-push, IsNonDecreasingBy-short}
use Rattle.indexmap.specs.IndexMap.{get_by_text}
use Rattle.stm_history.specs.declared.key_state.KeyState.{KeyState}
use Rattle.stm_history.specs.Opening.{Opening, States, opened_state}
use Rattle.stm_history.specs.History.{key_after, revisions_up_to}
use Rattle.stm_history.proofs.HistoryLaws.{all_up_to, last_is_above}
use Rattle.stm_history.proofs.StatesLaws.{state_found, same_states}
use Rattle.stm_keys.specs.declared.event.Event.{Event}
use Rattle.stm_keys.specs.Events.{event_about, after_event, change_of_event}
use Rattle.stm_keys.specs.Keys.{Contents, state_recorded, changes_of, all_events, IsKept}
use Rattle.stm_keys.specs.Chains.{Versions, Chain, no_versions, versions_in, versions_of, with_version, newest_below, event_from, state_from, found_below, found_now}
use Rattle.stm_keys.specs.Chains.{IsKeptNumber, present_among, AreSearchable, StandFirst, is_left, names_of, opening_of}
use Rattle.stm_keys.proofs.Apart.{apart_there}
use Rattle.stm_keys.proofs.Fields.{split_at}
use Rattle.stm_keys.proofs.Order.{same_presence, present_count}
use Rattle.stm_keys.proofs.Present.{not_found}
use Rattle.stm_keys.proofs.Recorded.{recorded_state, older_recorded}

-- ---- the numbers of a chain

-- the events of the revision with a number, of revisions with the newest first
abbrev pub events_there : ℕ → ℕ → List (List Event) → List Event
events_there below number [] = []
events_there below number (events ∷ older) = cond (nat_eq number (below + suc (length older))) events (events_there below number older)

abbrev pub event_there : ℕ → List (List Event) → List ℕ → Option ℕ → Option Event
event_there below recorded key None = None
event_there below recorded key (Some number) = event_about key (events_there below number recorded)

-- the revisions whose numbers are below a bound
abbrev pub recorded_below : ℕ → ℕ → List (List Event) → List (List Event)
recorded_below below bound [] = []
recorded_below below bound (events ∷ older) =
    cond (nat_lt (below + suc (length older)) bound) (events ∷ older) (recorded_below below bound older)

-- each is the number of one of these revisions
abbrev pub AreKept : ℕ → ℕ → List ℕ → Type 0
AreKept below count [] = Unit {0}
AreKept below count (number ∷ older) = IsKeptNumber below count number × AreKept below count older

kept_more : (below count more : ℕ) (numbers : List ℕ) → count ≤ more → AreKept below count numbers → AreKept below more numbers
kept_more below count more [] le all = tt
kept_more below count more (n ∷ ns) le all = ((all.0.0, omega (arith, le, all.0.1)), kept_more below count more ns le all.1)

kept_with : (b : Bool) (below count : ℕ) (versions : Versions) → AreKept below count versions.numbers →
    AreKept below (suc count) (with_version b (below + suc count) versions).numbers
kept_with b below count versions all = grind (arith, nat_tests, kept_more)

pub are_kept : (opening : Opening) (key : List ℕ) (recorded : List (List Event)) →
    AreKept opening.number (length recorded) (versions_of opening key recorded).numbers
are_kept opening key [] = tt
are_kept opening key (events ∷ older) = grind (arith, nat_tests, kept_with, are_kept opening key older)

newest_case : (b : Bool) (below count n : ℕ) (o : Option ℕ) → IsKeptNumber below count n → IfSome o (IsKeptNumber below count) →
    IfSome (cond b (Some n) o) (IsKeptNumber below count)
newest_case b below count n o here rest = grind (arith, nat_tests)

pub newest_is_kept : (bound below count : ℕ) (numbers : List ℕ) → AreKept below count numbers → IfSome (newest_below bound numbers) (IsKeptNumber below count)
newest_is_kept bound below count [] all = tt
newest_is_kept bound below count (n ∷ ns) all = grind (arith, nat_tests, newest_case, newest_is_kept bound below count ns all.1)

first_is_kept : (below count : ℕ) (numbers : List ℕ) → AreKept below count numbers → IfSome (slice_get numbers 0) (IsKeptNumber below count)
first_is_kept below count [] all = tt
first_is_kept below count (n ∷ ns) all = all.0

-- above all numbers the newest is the first
newest_first : (below count bound : ℕ) (numbers : List ℕ) → AreKept below count numbers → below + count < bound →
    newest_below bound numbers ≡ slice_get numbers 0
newest_first below count bound [] all above = refl
newest_first below count bound (n ∷ ns) all above = grind (arith, nat_tests, lt-ltb)

-- the numbers rise from the oldest on
last_at_most : (below count : ℕ) (numbers : List ℕ) (d : ℕ) → AreKept below count numbers → 0 < length (reverse numbers) →
    get_or (reverse numbers) (length (reverse numbers) - 1) d ≤ below + suc count
last_at_most below count [] d all some = absurd (omega arith)
last_at_most below count (n ∷ ns) d all some =
    let push : reverse (n ∷ ns) ≡ reverse ns ++ n ∷ [] = reverse-append (n ∷ []) ns in
    let place : length (reverse ns) ≡ length (reverse (n ∷ ns)) - 1 = omega (arith, length-reverse ns, length-reverse (n ∷ ns)) in
    let last : get_or (reverse (n ∷ ns)) (length (reverse (n ∷ ns)) - 1) d ≡ n =
    ap (λ (l : List ℕ). get_or l (length (reverse (n ∷ ns)) - 1) d) push ∙ get_or_push (reverse ns) n d (length (reverse (n ∷ ns)) - 1) place in
    omega (arith, last, all.0.1)

rising_with : (b : Bool) (below count : ℕ) (versions : Versions) → AreKept below count versions.numbers → IsNonDecreasing (reverse versions.numbers) →
    IsNonDecreasing (reverse (with_version b (below + suc count) versions).numbers)
rising_with false below count versions all rising = rising
rising_with true below count versions all rising =
    subst IsNonDecreasing (sym (reverse-append ((below + suc count) ∷ []) versions.numbers))
    (IsNonDecreasingBy-push (λ m. m) (reverse versions.numbers) (below + suc count) rising (λ d some. last_at_most below count versions.numbers d all some))

are_rising : (opening : Opening) (key : List ℕ) (recorded : List (List Event)) → IsNonDecreasing (reverse (versions_of opening key recorded).numbers)
are_rising opening key [] = IsNonDecreasingBy-short (λ m. m) [] (omega arith)
are_rising opening key (events ∷ older) = grind (arith, nat_tests, rising_with, are_kept, are_rising opening key older)

-- what a key was before its versions is what it was at the opening
pub before_with : (b : Bool) (number : ℕ) (versions : Versions) → (with_version b number versions).before ≡ versions.before
before_with b number versions = grind (arith, nat_tests)

pub before_opened : (opening : Opening) (key : List ℕ) (recorded : List (List Event)) → (versions_of opening key recorded).before ≡ opened_state opening key
before_opened opening key [] = refl
before_opened opening key (events ∷ older) = grind (arith, nat_tests, before_with, before_opened opening key older)

-- ---- what is found

-- an older revision's events stand where they stood
skipped : (below : ℕ) (key : List ℕ) (events : List Event) (older : List (List Event)) (o : Option ℕ) → IfSome o (IsKeptNumber below (length older)) →
    event_there below (events ∷ older) key o ≡ event_there below older key o
skipped below key events older o kept = grind (arith, nat_tests)

all_below : (below bound : ℕ) (recorded : List (List Event)) → below + length recorded < bound → recorded_below below bound recorded ≡ recorded
all_below below bound [] above = refl
all_below below bound (events ∷ older) above = grind (arith, nat_tests, lt-ltb)

-- one more revision, with an event of the key or with none, below the bound or not
walked_step : (before : Option KeyState) (key : List ℕ) (below bound : ℕ) (events : List Event) (older : List (List Event)) (versions : Versions) →
    after_event (event_there below (events ∷ older) key (newest_below bound versions.numbers)) before
    ≡ state_recorded before key (recorded_below below bound older) →
    (o : Option Event) → event_about key events ≡ o → (b : Bool) → nat_lt (below + suc (length older)) bound ≡ b →
    after_event (event_there below (events ∷ older) key
    (newest_below bound (with_version (is_some (event_about key events)) (below + suc (length older)) versions).numbers)) before
    ≡ state_recorded before key (cond (nat_lt (below + suc (length older)) bound) (events ∷ older) (recorded_below below bound older))
walked_step before key below bound events older versions reported o about b less = grind (arith, nat_tests, all_below, ltb-true, eq-eqb)

-- the newest number below a bound leads to what the key was after the revisions below it
walked : (opening : Opening) (before : Option KeyState) (key : List ℕ) (bound : ℕ) (recorded : List (List Event)) →
    after_event (event_there opening.number recorded key (newest_below bound (versions_of opening key recorded).numbers)) before
    ≡ state_recorded before key (recorded_below opening.number bound recorded)
walked opening before key bound [] = refl
walked opening before key bound (events ∷ older) =
    grind (arith, nat_tests, walked_step, skipped, newest_is_kept, are_kept, walked opening before key bound older)

-- the same over revisions with the oldest first
there : (below number : ℕ) (newer : List (List Event)) (events : List Event) (older : List (List Event)) → number ≡ below + suc (length older) →
    events_there below number (newer ++ events ∷ older) ≡ events
there below number [] events older is = ap (λ b. cond b events (events_there below number older)) (eq-eqb number (below + suc (length older)) is)
there below number (x ∷ newer) events older is = grind (arith, nat_tests, length-append, there below number newer events older is)

reported_there : (below : ℕ) (xs : List (List Event)) (key : List ℕ) (o : Option ℕ) → IfSome o (IsKeptNumber below (length xs)) →
    event_from below xs key o ≡ event_there below (reverse xs) key o
reported_there below xs key None kept = refl
reported_there below xs key (Some q) kept =
    let place : ℕ = q - below - 1 in
    let within : place < length xs = omega (arith, kept.0, kept.1) in
    let x : List Event = get_or xs place [] in
    let split : reverse xs ≡ reverse (drop (suc place) xs) ++ x ∷ reverse (take place xs) = split_at xs place x within (get_or_default xs place [] x within) in
    sym (ap (λ es. event_about key es)
    (ap (events_there below q) split
    ∙ there below q (reverse (drop (suc place) xs)) x (reverse (take place xs))
    (omega (arith, kept.0, length-reverse (take place xs), length-take-le place xs (omega (arith, within))))))

-- what is found below a bound is what a walk over the revisions below it finds
found_recorded : (opening : Opening) (xs : List (List Event)) (key : List ℕ) (bound : ℕ) (versions : Versions) → versions ≡ versions_of opening key (reverse xs) →
    found_below opening.number xs key bound versions ≡ state_recorded (opened_state opening key) key (recorded_below opening.number bound (reverse xs))
found_recorded opening xs key bound versions is = grind (arith, nat_tests, length-reverse, are_kept, reported_there, newest_is_kept, before_opened, walked)

-- the revisions below a bound are those up to the number below it
below_up_to : (opening : Opening) (r bound : ℕ) (recorded : List (List Event)) → bound ≡ r + 1 →
    changes_of (recorded_below opening.number bound recorded) ≡ revisions_up_to opening r (changes_of recorded)
below_up_to opening r bound [] is = refl
below_up_to opening r bound (events ∷ older) is =
    grind (arith, nat_tests, length-map, cases_lt, le-ltb, last_is_above, lt-ltb, all_up_to, below_up_to opening r bound older is)

-- and they are recorded as they are without the newer ones
still_recorded : (opening : Opening) (bound : ℕ) (recorded : List (List Event)) → recorded ≡ all_events opening (changes_of recorded) →
    recorded_below opening.number bound recorded ≡ all_events opening (changes_of (recorded_below opening.number bound recorded))
still_recorded opening bound [] is = refl
still_recorded opening bound (events ∷ older) is =
    grind (arith, nat_tests, older_recorded, still_recorded opening bound older (older_recorded opening (events ∷ []) older is))

-- the newest number below a bound leads to what the key was at the revision below it
pub found_then : (opening : Opening) (r : ℕ) (xs : List (List Event)) (chains : List ℕ → Option Chain) (key : List ℕ) (bound : ℕ) →
    IsKept opening (reverse xs) chains → bound ≡ r + 1 →
    found_below opening.number xs key bound (versions_in (chains key)) ≡ key_after opening key (revisions_up_to opening r (changes_of (reverse xs)))
found_then opening r xs chains key bound kept is = grind (arith, nat_tests, found_recorded, still_recorded, recorded_state, below_up_to)

-- the newest number of a key's chain leads to what the key is
pub found_all : (opening : Opening) (xs : List (List Event)) (chains : List ℕ → Option Chain) (key : List ℕ) → IsKept opening (reverse xs) chains →
    found_now opening.number xs key (versions_in (chains key)) ≡ key_after opening key (changes_of (reverse xs))
found_all opening xs chains key kept =
    let r : ℕ = opening.number + length (reverse xs) in
    let versions : Versions = versions_in (chains key) in
    let all : AreKept opening.number (length (reverse xs)) versions.numbers =
    subst (λ (v : Versions). AreKept opening.number (length (reverse xs)) v.numbers) (sym (kept.versions key)) (are_kept opening key (reverse xs)) in
    sym (ap (state_from opening.number xs key versions.before)
    (newest_first opening.number (length (reverse xs)) (r + 1) versions.numbers all (omega arith)))
    ∙ found_then opening r xs chains key (r + 1) kept refl
    ∙ ap (key_after opening key) (all_up_to opening r (changes_of (reverse xs)) (omega (arith, length-map (reverse xs) (map change_of_event))))

-- the chains that a key store keeps can be searched
pub searchable : (opening : Opening) (xs : List (List Event)) (chains : List ℕ → Option Chain) → IsKept opening (reverse xs) chains →
    AreSearchable chains opening.number xs
searchable opening xs chains kept = grind (arith, nat_tests, are_rising, newest_is_kept, first_is_kept, apart_there, length-reverse, are_kept)

-- a search by halves finds the newest number below a bound
search_case : (xs : List ℕ) (bound : ℕ) (k : ℕ) → k < length xs → ltb (get_or xs k 0) bound ≡ false →
    newest_below bound (reverse (take (k + 1) xs)) ≡ newest_below bound (reverse (take k xs))
search_case xs bound k within above =
    ap (newest_below bound) (ap reverse (take_more xs k 0 within) ∙ reverse-append (take k xs) (get_or xs k 0 ∷ []))
    ∙ ap (λ b. cond b (Some (get_or xs k 0)) (newest_below bound (reverse (take k xs)))) above

none_above : (xs : List ℕ) (bound i k : ℕ) → i + k ≤ length xs → ((j : ℕ) → i ≤ j → j < length xs → ltb (get_or xs j 0) bound ≡ false) →
    newest_below bound (reverse (take (i + k) xs)) ≡ newest_below bound (reverse (take i xs))
none_above xs bound i zero within above = ap (λ n. newest_below bound (reverse (take n xs))) (omega arith)
none_above xs bound i (suc k) within above =
    ap (λ n. newest_below bound (reverse (take n xs))) (omega arith)
    ∙ search_case xs bound (i + k) (omega arith) (above (i + k) (omega arith) (omega arith))
    ∙ none_above xs bound i k (omega arith) above

pub none_found : (xs : List ℕ) (bound : ℕ) → IsPartitionPoint (λ y. ltb y bound ≡ true) (λ y. ltb y bound ≡ false) xs 0 →
    None ≡ newest_below bound (reverse xs)
none_found xs bound cut =
    sym (ap (λ (l : List ℕ). newest_below bound (reverse l)) (sym (take_all (0 + length xs) xs (omega arith)))
    ∙ none_above xs bound 0 (length xs) (omega arith) (λ j low high. cut.1 j 0 low high))

pub one_found : (xs : List ℕ) (bound m : ℕ) (number : ℕ) → m + 1 ≤ length xs → number ≡ get_or xs m 0 →
    IsPartitionPoint (λ y. ltb y bound ≡ true) (λ y. ltb y bound ≡ false) xs (m + 1) → Some number ≡ newest_below bound (reverse xs)
one_found xs bound m number within is cut =
    sym (ap (λ (l : List ℕ). newest_below bound (reverse l)) (sym (take_all (m + 1 + (length xs - (m + 1))) xs (omega arith)))
    ∙ none_above xs bound (m + 1) (length xs - (m + 1)) (omega arith) (λ j low high. cut.1 j 0 low high)
    ∙ ap (newest_below bound) (ap reverse (take_more xs m 0 (omega (arith, within))) ∙ reverse-append (take m xs) (get_or xs m 0 ∷ []))
    ∙ ap (λ b. cond b (Some (get_or xs m 0)) (newest_below bound (reverse (take m xs)))) (cut.0 m 0 (omega arith) (omega arith))
    ∙ ap Some (sym is))

reported_state : (opening : Opening) (recorded : List (List Event)) (chains : List ℕ → Option Chain) (key : List ℕ) → IsKept opening recorded chains →
    key_after opening key (changes_of recorded) ≡ state_recorded (opened_state opening key) key recorded
reported_state opening recorded chains key kept = grind (arith, nat_tests, recorded_state)

-- a key without a version was absent at the opening, and never changed
pub unchanged_key : (opening : Opening) (recorded : List (List Event)) (chains : List ℕ → Option Chain) (key : List ℕ) → IsKept opening recorded chains →
    versions_in (chains key) ≡ no_versions → key_after opening key (changes_of recorded) ≡ None
unchanged_key opening recorded chains key kept none =
    let bound : ℕ = opening.number + length recorded + 1 in
    let is : versions_of opening key recorded ≡ no_versions = sym (kept.versions key) ∙ none in
    let before : Option KeyState = opened_state opening key in
    reported_state opening recorded chains key kept
    ∙ sym (ap (state_recorded before key) (all_below opening.number bound recorded (omega arith)))
    ∙ sym (walked opening before key bound recorded)
    ∙ ap (λ (v : Versions). after_event (event_there opening.number recorded key (newest_below bound v.numbers)) before) is
    ∙ sym (before_opened opening key recorded)
    ∙ ap (λ (v : Versions). v.before) is

-- more room leaves what is kept
pub kept_with_room : (opening : Opening) (recorded : List (List Event)) (chains next : List ℕ → Option Chain) → IsKept opening recorded chains →
    ((key : List ℕ) → versions_in (next key) ≡ versions_in (chains key)) → IsKept opening recorded next
kept_with_room opening recorded chains next kept same = grind (arith, nat_tests)

-- and so do the chains over revisions that are the same
pub reported_now : (opening : Opening) (xs : List (List Event)) (chains : List ℕ → Option Chain) (key : List ℕ) → IsKept opening (reverse xs) chains →
    found_now opening.number xs key (versions_in (chains key)) ≡ key_after opening key (changes_of (reverse xs))
reported_now opening xs chains key kept = found_all opening xs chains key kept

-- one more recorded revision leaves present what its events leave
left_case : (o : Option Event) (s : Option KeyState) → is_left o (is_some s) ≡ is_some (after_event o s)
left_case o s = grind (arith, nat_tests)

pub first_after : (opening : Opening) (xs ys : List (List Event)) (chains next : List ℕ → Option Chain) (events : List Event) (n : ℕ) (names : List (List ℕ)) →
    IsKept opening (reverse xs) chains → IsKept opening (reverse ys) next → ys ≡ xs ++ events ∷ [] →
    StandFirst (λ key. is_left (event_about key events) (is_some (key_after opening key (changes_of (reverse xs))))) n names →
    StandFirst (λ key. is_some (key_after opening key (changes_of (reverse ys)))) n names
first_after opening xs ys chains next events n names kept more is first =
    same_presence (λ key. is_left (event_about key events) (is_some (key_after opening key (changes_of (reverse xs)))))
    (λ key. is_some (key_after opening key (changes_of (reverse ys)))) n names
    (λ key.
    ap is_some (reported_state opening (reverse ys) next key more
    ∙ ap (state_recorded (opened_state opening key) key) (ap reverse is ∙ reverse-append xs (events ∷ [])))
    ∙ sym (left_case (event_about key events) (state_recorded (opened_state opening key) key (reverse xs)))
    ∙ ap (λ (s : Option KeyState). is_left (event_about key events) (is_some s)) (sym (reported_state opening (reverse xs) chains key kept)))
    first

-- a key without a version is absent
pub no_version_absent : (opening : Opening) (recorded : List (List Event)) (chains : List ℕ → Option Chain) (key : List ℕ) → IsKept opening recorded chains →
    versions_in (chains key) ≡ no_versions → is_some (key_after opening key (changes_of recorded)) ≡ false
no_version_absent opening recorded chains key kept none = ap is_some (unchanged_key opening recorded chains key kept none)

-- ---- what contracts see of fields

abbrev pub seen : Opening → ℕ → ℕ → List (List Event) → List (List ℕ) → Contents
seen opening opened floor xs keys = record {
  history = record { opening = opening; revisions = changes_of (reverse xs) };
  present = present_among (λ key. key_after opening key (changes_of (reverse xs))) keys;
  opened = opened;
  floor = floor;
}

-- an index of the list of present keys is below their number
pub below_count : (opening : Opening) (opened floor : ℕ) (xs : List (List Event)) (n index : ℕ) (names : List (List ℕ)) (v : Contents) →
    seen opening opened floor xs names ≡ v →
    StandFirst (λ key. is_some (key_after opening key (changes_of (reverse xs)))) n names → index < length v.present → index < n
below_count opening opened floor xs n index names v is first below =
    subst (λ m. index < m) (sym (ap (λ (w : Contents). length w.present) is)
    ∙ present_count (λ key. key_after opening key (changes_of (reverse xs))) n names first) below

-- keys without a version are not seen
pub view_kept : (opening next : Opening) (opened floor : ℕ) (xs ys : List (List Event)) (keys more : List (List ℕ)) (v : Contents) → next ≡ opening → ys ≡ xs →
    present_among (λ key. key_after opening key (changes_of (reverse xs))) more ≡ present_among (λ key. key_after opening key (changes_of (reverse xs))) keys →
    seen opening opened floor xs keys ≡ v → seen next opened floor ys more ≡ v
view_kept opening next opened floor xs ys keys more v alike same present is = grind (arith, nat_tests)

-- what a store with these chains opens with is what they keep of before
module _ {Y S : Type 0} (m : HashMap (String Y) Chain S) (below : ℕ) where
  pub before_found : (key : List ℕ) → find (slice_cmp nat_cmp) key (opening_of below m).states ≡ (versions_in (get_by_text m key)).before
  before_found key =
      state_found (λ k. (versions_in (get_by_text m k)).before) key (names_of m)
      (λ others. ap (λ (o : Option Chain). (versions_in o).before) (not_found string_bytes key m.entries others))

-- chains with the same versions open with the same
pub opening_kept : {Y S R : Type 0} (m : HashMap (String Y) Chain S) (n : HashMap (String Y) Chain R) (below : ℕ) →
    ((key : List ℕ) → (versions_in (get_by_text n key)).before ≡ (versions_in (get_by_text m key)).before) → opening_of below n ≡ opening_of below m
opening_kept m n below same =
    ap (λ (states : States). let o : Opening = record { number = below; states = states } in o)
    (same_states (λ key. (versions_in (get_by_text n key)).before) (λ key. (versions_in (get_by_text m key)).before) (names_of n) (names_of m)
    (λ key. before_found n below key ∙ same key ∙ sym (before_found m below key)))

-- what holds anyway holds where a call is refused
pub on_any : {T E P : Type 0} (r : Result T E) → P → OnErr r P
on_any r holds = grind (arith, nat_tests)
