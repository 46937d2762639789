-- What is left once the oldest revision is forgotten.
use Rattle.std.proofs.Common.{◌≡◌, ℕ, ◌+◌, ◌-◌, ◌≤◌, ◌<◌, Bool, true, false, List, [], ◌∷◌, ◌++◌, length, map, reverse, take, drop, set, get_or, slice_get, cond}
use Rattle.std.proofs.Common.{Option, Some, None, IsTrue, not, zero, suc, refl, sym, ◌∙◌, ap, subst, arith, is_some, inl, inr, ◌⊎◌, string_bytes, IfSome}
use Rattle.std.specs.Prelude.{nat_eq, swap_remove, bytes_eq, option_map, string_eq}
use Rattle.std.specs.HashMap.{HashMap}
use Rattle.std.specs.declared.string.String.{String}
use Rattle.std.proofs.lemmas.Bool.{cases_lt, cases_eq, lt-ltb, le-ltb, eqb-true, eqb-false, Decides.nat_tests}
use Rattle.std.proofs.lemmas.List.{length-map, length_push, length-reverse, length-take-le, length-set, reverse-append, get_or-set_other, get_or-take, take-take, take-set-le, nil_from_length}
use Rattle.std.proofs.lemmas.Grind.{get_or-set_at}
use Rattle.std.proofs.lemmas.Cmp.{nat_list_eq_equiv}
use Rattle.std.proofs.lemmas.Map.Text.{hash_map_updates_text}
use Rattle.std.proofs.lemmas.Slice.Eq.{bytes_eq-Decides}
use Rattle.std.proofs.lemmas.Option.{slice_get_within, slice_get-get_or, get_or_from_slice_get}
use Rattle.indexmap.proofs.SetLemmas.{map-swap_remove}
use Rattle.indexmap.specs.IndexMap.{get_by_text, Updates}
use Rattle.stm_history.specs.declared.change.Change.{Change}
use Rattle.stm_history.specs.declared.key_state.KeyState.{KeyState}
use Rattle.stm_history.specs.Opening.{Opening, States, if_reached, opened_state}
use Rattle.stm_history.specs.History.{History, number_of_last, key_after, key_at, change_of, after_change, revisions_up_to, AreRevisions}
use Rattle.stm_history.specs.Cut.{keys_named, revisions_above, opening_of_cut, cut}
use Rattle.stm_history.proofs.HistoryLaws.{one_more, all_up_to, last_is_above, are_small, stays_small, small_opened}
use Rattle.stm_history.proofs.StatesLaws.{same_states}
use Rattle.stm_history.proofs.CutLaws.{found_at, cut_off, taken_above, none_above}
use Rattle.stm_keys.specs.declared.event.Event.{Event}
use Rattle.stm_keys.specs.Events.{AreApart, key_of_event, event_of, events_above, event_about, after_event, change_of_event}
use Rattle.stm_keys.specs.Keys.{changes_of, all_events, state_recorded, IsKept}
use Rattle.stm_keys.specs.Chains.{Versions, Chain, no_versions, versions_in, versions_of, with_version, without_oldest, forgotten, DropsAbsent}
use Rattle.stm_keys.specs.Chains.{StandFirst, present_among, with_state, names_of, opening_of}
use Rattle.stm_keys.proofs.Order.{tail_first, present_count}
use Rattle.stm_keys.proofs.Recorded.{recorded_state, older_recorded, events_same}
use Rattle.stm_keys.proofs.Steps.{text_at}
use Rattle.stm_keys.proofs.Walked.{before_opened, before_found}

-- ---- numbers without the oldest

oldest_last : (ns : List ℕ) (n : ℕ) → without_oldest (ns ++ n ∷ []) ≡ ns
oldest_last [] n = refl
oldest_last (m ∷ []) n = refl
oldest_last (m ∷ (l ∷ ls)) n = ap (λ (r : List ℕ). m ∷ r) (oldest_last (l ∷ ls) n)

pub dropped_first : (xs : List ℕ) → reverse (drop 1 xs) ≡ without_oldest (reverse xs)
dropped_first [] = refl
dropped_first (x ∷ xs) = sym (ap without_oldest (reverse-append (x ∷ []) xs) ∙ oldest_last (reverse xs) x)

pub mapped_drop : {V : Type 0} (f : V → ℕ) (xs : List V) → map f (drop 1 xs) ≡ drop 1 (map f xs)
mapped_drop f xs = grind (arith, nat_tests)

-- the newest of several stays
pub newest_stays : (ns : List ℕ) → 0 < length (without_oldest ns) → slice_get (without_oldest ns) 0 ≡ slice_get ns 0
newest_stays [] some = absurd (omega (arith, some))
newest_stays (n ∷ []) some = absurd (omega (arith, some))
newest_stays (n ∷ (m ∷ ms)) some = refl

-- so a chain's newest version is what it was once the oldest is dropped, unless that was the only one
pub newest_kept : {V : Type 0} (f : V → ℕ) (xs : List V) (newest : Option V) (b : Bool) → option_map f newest ≡ slice_get (reverse (map f xs)) 0 →
    nat_eq (length (drop 1 xs)) 0 ≡ b → option_map f (cond b None newest) ≡ slice_get (reverse (map f (drop 1 xs))) 0
newest_kept f xs newest b is none =
    grind (arith, nat_tests, nil_from_length, eqb-true, mapped_drop, dropped_first, length-reverse, length-map, eqb-false, newest_stays)

-- a key without a version that was absent before has nothing, and only such a key
pub gone_iff : {V : Type 0} (before : Option KeyState) (ns : List ℕ) (newest : Option V) (f : V → ℕ) (a b : Bool) → is_some before ≡ not a → a ≡ true →
    is_some newest ≡ not b → option_map f newest ≡ slice_get ns 0 →
    (IsTrue b → (let v : Versions = record { before = before; numbers = ns } in v) ≡ no_versions)
    × ((let v : Versions = record { before = before; numbers = ns } in v) ≡ no_versions → IsTrue b)
gone_iff (Some s) ns newest f true b some is none same = absurd (cc)
gone_iff before ns newest f false b some is none same = absurd (cc)
gone_iff None [] None f true true some is none same = (λ t. refl, λ gone. refl)
gone_iff None [] None f true false some is none same = absurd (cc)
gone_iff None (n ∷ ns) None f true b some is none same = absurd (cc)
gone_iff None [] (Some v) f true b some is none same = absurd (cc)
gone_iff None (n ∷ ns) (Some v) f true true some is none same = absurd (cc)
gone_iff None (n ∷ ns) (Some v) f true false some is none same = grind (arith, nat_tests)

-- ---- versions without the oldest

pub before_forgotten : (o : Option Event) (v : Versions) → (forgotten o v).before ≡ after_event o v.before
before_forgotten o v = grind (arith, nat_tests)

forget_with : (o : Option Event) (b : Bool) (n m : ℕ) (v : Versions) → n ≡ m → (is_some o ≡ true → 0 < length v.numbers) →
    forgotten o (with_version b n v) ≡ with_version b m (forgotten o v)
forget_with o b n m v same some = grind (arith, nat_tests)

some_with : (b : Bool) (n : ℕ) (v : Versions) → 0 < length v.numbers → 0 < length (with_version b n v).numbers
some_with b n v some = grind (arith, nat_tests)

-- a key that the oldest revision changes has a version
pub has_oldest : (opening : Opening) (key : List ℕ) (newer : List (List Event)) (oldest : List Event) → is_some (event_about key oldest) ≡ true →
    0 < length (versions_of opening key (newer ++ oldest ∷ [])).numbers
has_oldest opening key [] oldest some = grind (arith, nat_tests)
has_oldest opening key (x ∷ newer) oldest some = grind (arith, nat_tests, some_with, has_oldest opening key newer oldest some)

-- ---- an opening that stands in the place of the oldest revision

long_changes : (recorded : List (List Event)) → length (changes_of recorded) ≡ length recorded
long_changes recorded = length-map recorded (map change_of_event)

module _ (old new : Opening) (oldest : List Event) (numbered : new.number ≡ old.number + 1)
    (opened : (key : List ℕ) → opened_state new key ≡ key_after old key (changes_of (oldest ∷ []))) where
  number_same : (changes : List Change) (newer : List (List Event)) →
      number_of_last new (changes ∷ changes_of newer) ≡ number_of_last old (changes ∷ changes_of (newer ++ oldest ∷ []))
  number_same changes newer = omega (arith, numbered, long_changes newer, long_changes (newer ++ oldest ∷ []), length_push newer oldest)

  pub key_same : (key : List ℕ) (newer : List (List Event)) →
      key_after new key (changes_of newer) ≡ key_after old key (changes_of (newer ++ oldest ∷ []))
  key_same key [] = opened key
  key_same key (x ∷ newer) =
      let c : List Change = map change_of_event x in
      let all : List (List Change) = changes_of (newer ++ oldest ∷ []) in
      one_more new key c (changes_of newer)
      ∙ ap (λ (n : ℕ). after_change n (change_of key c) (key_after new key (changes_of newer))) (number_same c newer)
      ∙ ap (after_change (number_of_last old (c ∷ all)) (change_of key c)) (key_same key newer)
      ∙ sym (one_more old key c all)

  still_shaped : (newer : List (List Event)) → AreRevisions (changes_of (newer ++ oldest ∷ [])) → AreRevisions (changes_of newer)
  still_shaped [] are = tt
  still_shaped (x ∷ newer) are = (are.0, still_shaped newer are.1)

  still_events : (newer : List (List Event)) → newer ++ oldest ∷ [] ≡ all_events old (changes_of (newer ++ oldest ∷ [])) →
      newer ≡ all_events new (changes_of newer)
  still_events [] is = refl
  still_events (x ∷ newer) is =
      let c : List Change = map change_of_event x in
      let all : List (List Change) = changes_of (newer ++ oldest ∷ []) in
      let first : x ≡ events_above old c all = ap (λ (l : List (List Event)). get_or l 0 x) is in
      let above : events_above old c all ≡ events_above new c (changes_of newer) =
      ap (λ (n : ℕ). map (event_of n (λ key. key_after old key all)) c) (sym (number_same c newer))
      ∙ events_same (number_of_last new (c ∷ changes_of newer)) (λ key. key_after old key all) (λ key. key_after new key (changes_of newer)) c
      (λ key. sym (key_same key newer)) in
      ap (λ (e : List Event). e ∷ newer) (first ∙ above)
      ∙ ap (λ (l : List (List Event)). events_above new c (changes_of newer) ∷ l)
      (still_events newer (older_recorded old (x ∷ []) (newer ++ oldest ∷ []) is))

  -- what the oldest revision left
  left : (key : List ℕ) → oldest ∷ [] ≡ all_events old (changes_of (oldest ∷ [])) →
      opened_state new key ≡ after_event (event_about key oldest) (opened_state old key)
  left key recorded =
      opened key
      ∙ sym (recorded_state old key (changes_of (oldest ∷ [])))
      ∙ ap (state_recorded (opened_state old key) key) (sym recorded)

  versions_same : (key : List ℕ) (newer : List (List Event)) → oldest ∷ [] ≡ all_events old (changes_of (oldest ∷ [])) →
      forgotten (event_about key oldest) (versions_of old key (newer ++ oldest ∷ [])) ≡ versions_of new key newer
  versions_same key [] recorded = grind (arith, nat_tests, left)
  versions_same key (x ∷ newer) recorded = grind (arith, nat_tests, forget_with, length_push, has_oldest, versions_same key newer recorded)

  pub forgotten_kept : (newer : List (List Event)) (chains next : List ℕ → Option Chain) → IsKept old (newer ++ oldest ∷ []) chains →
      ((key : List ℕ) → versions_in (next key) ≡ forgotten (event_about key oldest) (versions_in (chains key))) → IsKept new newer next
  forgotten_kept newer chains next kept reported = record {
    positive = omega (arith, numbered);
    bounded = omega (arith, numbered, kept.bounded, length_push newer oldest);
    shaped = still_shaped newer kept.shaped;
    events = still_events newer kept.events;
    versions = λ key.
        reported key
        ∙ ap (forgotten (event_about key oldest)) (kept.versions key)
        ∙ versions_same key newer (older_recorded old newer (oldest ∷ []) kept.events);
  }

-- ---- what chains show once the oldest revision is forgotten

module _ {Y S : Type 0} (old : Opening) (next : HashMap (String Y) Chain S) (newer : List (List Event)) (oldest : List Event)
    (chains : List ℕ → Option Chain) (kept : IsKept old (newer ++ oldest ∷ []) chains)
    (reported : (key : List ℕ) → versions_in (get_by_text next key) ≡ forgotten (event_about key oldest) (versions_in (chains key))) where
  before_reported : (key : List ℕ) → (versions_in (get_by_text next key)).before ≡ key_after old key (changes_of (oldest ∷ []))
  before_reported key =
      ap (λ (v : Versions). v.before) (reported key)
      ∙ before_forgotten (event_about key oldest) (versions_in (chains key))
      ∙ ap (after_event (event_about key oldest))
      (ap (λ (v : Versions). v.before) (kept.versions key) ∙ before_opened old key (newer ++ oldest ∷ []))
      ∙ ap (state_recorded (opened_state old key) key) (older_recorded old newer (oldest ∷ []) kept.events)
      ∙ recorded_state old key (changes_of (oldest ∷ []))

  pub next_opened : (key : List ℕ) → opened_state (opening_of (old.number + 1) next) key ≡ key_after old key (changes_of (oldest ∷ []))
  next_opened key =
      ap (if_reached (old.number + 1)) (before_found next (old.number + 1) key ∙ before_reported key)
      ∙ small_opened (old.number + 1) (key_after old key (changes_of (oldest ∷ [])))
      (stays_small (number_of_last old (changes_of (oldest ∷ []))) (old.number + 1) (key_after old key (changes_of (oldest ∷ []))) (omega arith)
      (are_small old key (changes_of (oldest ∷ []))))

  -- the revisions of the history, without the oldest and without all others
  up_to_oldest : (more : List (List Event)) →
      revisions_up_to old (old.number + 1) (changes_of (more ++ oldest ∷ [])) ≡ changes_of (oldest ∷ [])
  up_to_oldest [] = all_up_to old (old.number + 1) (changes_of (oldest ∷ [])) (omega arith)
  up_to_oldest (x ∷ more) = grind (arith, nat_tests, last_is_above, long_changes, length_push, up_to_oldest more)

  above_oldest : (more : List (List Event)) → revisions_above old (old.number + 1) (changes_of (more ++ oldest ∷ [])) ≡ changes_of more
  above_oldest [] = none_above old (old.number + 1) (map change_of_event oldest) [] (omega arith)
  above_oldest (x ∷ more) = grind (arith, nat_tests, taken_above, long_changes, length_push, above_oldest more)

  whole : History
  whole = record { opening = old; revisions = changes_of (newer ++ oldest ∷ []) }

  -- what is left is the history that was cut
  pub next_history : (let h : History = record { opening = opening_of (old.number + 1) next; revisions = changes_of newer } in h)
      ≡ cut (old.number + 1) (record { opening = old; revisions = changes_of (newer ++ oldest ∷ []) })
  unfolding whole
  next_history =
      let number : ℕ = old.number + 1 in
      ap (λ (s : States). let h : History = record { opening = record { number = number; states = s }; revisions = changes_of newer } in h)
      (same_states (λ key. (versions_in (get_by_text next key)).before) (λ key. key_at whole key number) (names_of next) (keys_named whole)
      (λ key. before_found next number key
      ∙ before_reported key
      ∙ sym (ap (key_after old key) (up_to_oldest newer))
      ∙ sym (found_at whole number key)))
      ∙ ap (λ (l : List (List Change)). let h : History = record { opening = opening_of_cut number whole; revisions = l } in h) (sym (above_oldest newer))
      ∙ sym (cut_off number whole (omega arith))

-- ---- the order of the chains once one has gone

removed_long : {X : Type 0} (xs : List X) (i : ℕ) (d : X) → i < length xs → length (swap_remove xs i d) + 1 ≡ length xs
removed_long xs i d within = grind (arith, nat_tests, length-take-le, length-set)

removed_first : {X : Type 0} (xs : List X) (i n : ℕ) (d : X) → n ≤ i → i < length xs → take n (swap_remove xs i d) ≡ take n xs
removed_first xs i n d le within = grind (arith, nat_tests, take-take, take-set-le)

-- what stands at a place stood there, or was the last and has taken the place of the one that went
removed_from : {X : Type 0} (xs : List X) (i : ℕ) (d : X) (place : ℕ) (x : X) → i < length xs → slice_get (swap_remove xs i d) place ≡ Some x →
    (slice_get xs place ≡ Some x) ⊎ ((place ≡ i) × (slice_get xs (length xs - 1) ≡ Some x))
removed_from xs i d place x within at =
    let last : ℕ = length xs - 1 in
    let y = get_or xs last d in
    let long : length (swap_remove xs i d) + 1 ≡ length xs = removed_long xs i d within in
    let there : place < length (swap_remove xs i d) = slice_get_within (swap_remove xs i d) place x at in
    let is : get_or (set xs i y) place d ≡ x =
    sym (get_or-take last (set xs i y) place d (omega (arith, there, long))) ∙ get_or_from_slice_get (swap_remove xs i d) place x d at in
    elim (cases_eq place i) [
      | inl same ↦
          inr (same, slice_get-get_or xs last d (omega (arith, within)) ∙ ap Some (sym (get_or-set_at xs i place y d same within) ∙ is))
      | inr other ↦
          inl (slice_get-get_or xs place d (omega (arith, there, long)) ∙ ap Some (sym (get_or-set_other xs i place y d other) ∙ is))
    ]

-- of keys of which the present ones stand first, the others add nothing
present_first : (state : List ℕ → Option KeyState) (n : ℕ) (keys : List (List ℕ)) → StandFirst (λ key. is_some (state key)) n keys →
    present_among state keys ≡ present_among state (take n keys)
present_first state zero keys first = nil_from_length (present_among state keys) (present_count state zero keys first)
present_first state (suc n) [] first = absurd (omega (arith, first.within))
present_first state (suc n) (k ∷ keys) first = ap (with_state k (state k)) (present_first state n keys (tail_first state n k keys first))

module _ (state : List ℕ → Option KeyState) (n : ℕ) (names : List (List ℕ)) (index : ℕ) (gone d : List ℕ)
    (first : StandFirst (λ key. is_some (state key)) n names) (at : slice_get names index ≡ Some gone) (absent : state gone ≡ None) where
  behind : n ≤ index
  behind = elim (cases_lt index n) [
    | inl less ↦
        let never : false ≡ true = sym (ap (λ (s : Option KeyState). is_some s) absent) ∙ first.each index gone at ∙ lt-ltb index n less in
        absurd (cc)
    | inr more ↦ more
  ]

  within_names : index < length names
  within_names = slice_get_within names index gone at

  still_first : StandFirst (λ key. is_some (state key)) n (swap_remove names index d)
  still_first = record {
    within = omega (arith, behind, removed_long names index d within_names, within_names);
    each = λ place key is.
        elim (removed_from names index d place key within_names is) [
          | inl here ↦ first.each place key here
          | inr last ↦
              first.each (length names - 1) key last.1
              ∙ le-ltb (length names - 1) n (omega (arith, behind, within_names))
              ∙ sym (le-ltb place n (omega (arith, behind, last.0)))
        ];
  }

  still_listed : present_among state (swap_remove names index d) ≡ present_among state names
  still_listed =
      present_first state n (swap_remove names index d) still_first
      ∙ ap (present_among state) (removed_first names index n d behind within_names)
      ∙ sym (present_first state n names first)

-- a chain goes whose key has no version
pub drops_gone : (versions_at : List ℕ → Versions) (names : List (List ℕ)) (index : ℕ) (gone d : List ℕ) → slice_get names index ≡ Some gone →
    versions_at gone ≡ no_versions → DropsAbsent versions_at names (swap_remove names index d)
drops_gone versions_at names index gone d at none = λ state n absent first. (
  still_first state n names index gone d first at (absent gone none),
  still_listed state n names index gone d first at (absent gone none),
)

pub drops_none : (versions_at : List ℕ → Versions) (old new : List (List ℕ)) → new ≡ old → DropsAbsent versions_at old new
drops_none versions_at old new same = grind (arith, nat_tests)

-- the same where what has no version in between has none in the end
pub drops_then : (between at_last : List ℕ → Versions) (a b c : List (List ℕ)) → ((key : List ℕ) → between key ≡ no_versions → at_last key ≡ no_versions) →
    DropsAbsent at_last a b → DropsAbsent between b c → DropsAbsent at_last a c
drops_then between at_last a b c still one two = λ state n absent first.
    let early = one state n absent first in
    let late = two state n (λ key none. absent key (still key none)) early.0 in (late.0, late.1 ∙ early.1)

-- the same for versions that are equal at each key
pub drops_same : (f g : List ℕ → Versions) (a b : List (List ℕ)) → ((key : List ℕ) → g key ≡ f key) → DropsAbsent f a b → DropsAbsent g a b
drops_same f g a b same drops = λ state n absent first. drops state n (λ key none. absent key (same key ∙ none)) first

-- names of a map without an entry
pub names_removed : {Y X S R : Type 0} (m : HashMap (String Y) X S) (n : HashMap (String Y) X R) (index : ℕ) (p : String Y × X) → index < length m.entries →
    n.entries ≡ swap_remove m.entries index p → names_of n ≡ swap_remove (names_of m) index (string_bytes p.0)
names_removed m n index p within is = grind (arith, nat_tests, map-swap_remove, length-map)

-- an element stands at each place within a list
some_within : {X : Type 0} (xs : List X) (i : ℕ) → i < length xs → slice_get xs i ≡ None → ⊥
some_within [] i within none = absurd (omega (arith, within))
some_within (x ∷ xs) zero within none = absurd (cc)
some_within (x ∷ xs) (suc i) within none = some_within xs i (omega (arith, within)) none

-- a map without the chain of a key that is gone
module _ {Y S : Type 0} (m n : HashMap (String Y) Chain S) (index : ℕ) (within : index < length m.entries)
    (gone : (key : List ℕ) → slice_get (names_of m) index ≡ Some key → versions_in (get_by_text m key) ≡ no_versions) where
  pub gone_versions : (o : Option (String Y × Chain)) → o ≡ slice_get m.entries index → IfSome o (λ p. Updates string_eq m n p.0 None) → (k : List ℕ) →
      versions_in (get_by_text n k) ≡ versions_in (get_by_text m k)
  gone_versions None at updates k = absurd (some_within m.entries index within (sym at))
  gone_versions (Some p) at updates k = by_test (bytes_eq (string_bytes p.0) k) refl
    where
      named : slice_get (names_of m) index ≡ Some (string_bytes p.0)
      named = text_at string_bytes m.entries index ∙ ap (option_map (λ e. string_bytes e.0)) (sym at)

      by_test : (b : Bool) → bytes_eq (string_bytes p.0) k ≡ b → versions_in (get_by_text n k) ≡ versions_in (get_by_text m k)
      by_test true same =
          ap versions_in (hash_map_updates_text (string_bytes p.0) m n None updates k ∙ ap (λ b. cond b None (get_by_text m k)) same)
          ∙ sym (gone (string_bytes p.0) named)
          ∙ ap (λ (l : List ℕ). versions_in (get_by_text m l)) ((bytes_eq-Decides (string_bytes p.0) k).0 same)
      by_test false differs =
          ap versions_in (hash_map_updates_text (string_bytes p.0) m n None updates k ∙ ap (λ b. cond b None (get_by_text m k)) differs)

  pub gone_names : (o : Option (String Y × Chain)) → o ≡ slice_get m.entries index → IfSome o (λ p. n.entries ≡ swap_remove m.entries index p) →
      DropsAbsent (λ k. versions_in (get_by_text m k)) (names_of m) (names_of n)
  gone_names None at entries = absurd (some_within m.entries index within (sym at))
  gone_names (Some p) at entries =
      let named : slice_get (names_of m) index ≡ Some (string_bytes p.0) =
      text_at string_bytes m.entries index ∙ ap (option_map (λ e. string_bytes e.0)) (sym at) in
      subst (DropsAbsent (λ k. versions_in (get_by_text m k)) (names_of m)) (sym (names_removed m n index p within entries))
      (drops_gone (λ k. versions_in (get_by_text m k)) (names_of m) index (string_bytes p.0) (string_bytes p.0) named (gone (string_bytes p.0) named))

-- ---- one event after another

-- the first of two events, if there is one
abbrev either : Option Event → Option Event → Option Event
either None p = p
either (Some e) p = Some e

-- the event that is forgotten of a key, of a revision with one event
only_about : (e : Event) (k : List ℕ) (v : Versions) →
    forgotten (cond (bytes_eq (key_of_event e) k) (Some e) None) v ≡ forgotten (event_about k (e ∷ [])) v
only_about e k v = refl

-- what the chain of an event's key had, and what it has once the event is forgotten
pub forgotten_at : (e : Event) (get new : List ℕ → Versions) (name : List ℕ) (before : Option KeyState) → name ≡ key_of_event e → before ≡ after_event (Some e) None →
    ((k : List ℕ) → new k ≡ cond (bytes_eq name k) (let v : Versions = record { before = before; numbers = without_oldest (get k).numbers } in v) (get k)) →
    (k : List ℕ) → new k ≡ forgotten (cond (bytes_eq (key_of_event e) k) (Some e) None) (get k)
forgotten_at e get new name before same is made k = grind (arith, nat_tests)

-- the last of several events
about_last : (k : List ℕ) (es : List Event) (e : Event) →
    event_about k (es ++ e ∷ []) ≡ (let o : Option Event = either (event_about k es) (cond (bytes_eq (key_of_event e) k) (Some e) None) in o)
about_last k [] e = refl
about_last k (x ∷ es) e = grind (arith, nat_tests, about_last k es e)

either_first : (o p : Option Event) → either o p ≡ None → o ≡ None
either_first o p none = grind (arith, nat_tests)

either_second : (o p : Option Event) → either o p ≡ None → p ≡ None
either_second o p none = grind (arith, nat_tests)

not_about : (e : Event) (b : Bool) → cond b (Some e) None ≡ None → b ≡ false
not_about e b none = grind (arith, nat_tests)

-- events that are apart without the last of them, and the last apart from the others
pub front_apart : (es : List Event) (e : Event) → AreApart (es ++ e ∷ []) → AreApart es × (event_about (key_of_event e) es ≡ None)
front_apart [] e apart = (tt, refl)
front_apart (x ∷ es) e apart =
    let rest = front_apart es e apart.1 in
    let alone : either (event_about (key_of_event x) es) (cond (bytes_eq (key_of_event e) (key_of_event x)) (Some e) None) ≡ None =
    sym (about_last (key_of_event x) es e) ∙ apart.0 in
    let differs : bytes_eq (key_of_event x) (key_of_event e) ≡ false =
    nat_list_eq_equiv.symm (key_of_event x) (key_of_event e)
    ∙ not_about e (bytes_eq (key_of_event e) (key_of_event x)) (either_second (event_about (key_of_event x) es) _ alone) in (
      (either_first (event_about (key_of_event x) es) _ alone, rest.0),
      ap (λ b. cond b (Some x) (event_about (key_of_event e) es)) differs ∙ rest.1,
    )

-- one event is forgotten, of several that are apart
module _ (es : List Event) (e : Event) (between new at_last : List ℕ → Versions) (alone : event_about (key_of_event e) es ≡ None)
    (reported : (k : List ℕ) → forgotten (event_about k (es ++ e ∷ [])) (between k) ≡ at_last k)
    (made : (k : List ℕ) → new k ≡ forgotten (cond (bytes_eq (key_of_event e) k) (Some e) None) (between k))
    (oldest : (k : List ℕ) → is_some (event_about k (es ++ e ∷ [])) ≡ true → 0 < length (between k).numbers) where
  absent_rest : (k : List ℕ) → bytes_eq (key_of_event e) k ≡ true → event_about k es ≡ None
  absent_rest k same = ap (λ (l : List ℕ). event_about l es) (sym ((bytes_eq-Decides (key_of_event e) k).0 same)) ∙ alone

  pub reported_on : (k : List ℕ) → forgotten (event_about k es) (new k) ≡ at_last k
  reported_on k = grind (arith, nat_tests, absent_rest, about_last)

  pub oldest_on : (k : List ℕ) → is_some (event_about k es) ≡ true → 0 < length (new k).numbers
  oldest_on k some = grind (arith, nat_tests, absent_rest, about_last)

  pub gone_on : (k : List ℕ) → new k ≡ no_versions → at_last k ≡ no_versions
  gone_on k none = by_about (event_about k es) refl
    where
      by_about : (o : Option Event) → event_about k es ≡ o → at_last k ≡ no_versions
      by_about None is = sym (reported_on k) ∙ ap (λ (o : Option Event). forgotten o (new k)) is ∙ none
      by_about (Some x) is =
          let some : 0 < length (new k).numbers = oldest_on k (ap (λ (o : Option Event). is_some o) is) in
          let never : length (new k).numbers ≡ 0 = ap (λ (v : Versions). length v.numbers) none in
          absurd (omega (arith, some, never))

-- the last of events that are apart is found by its key
pub last_some : (es : List Event) (e : Event) → AreApart (es ++ e ∷ []) → is_some (event_about (key_of_event e) (es ++ e ∷ [])) ≡ true
last_some es e apart = grind (arith, nat_tests, about_last, front_apart, bytes_eq-Decides)
