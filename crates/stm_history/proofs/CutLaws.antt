-- The laws of histories without their oldest revisions.
use Rattle.std.proofs.lemmas.Bool.Decides.{nat_tests}
use Rattle.std.proofs.Common.{◌≡◌, ℕ, ◌≤◌, ◌<◌, Bool, true, false, List, [], ◌∷◌, length, map, Option, Some, None, refl, sym, ◌∙◌, ap, arith, cond, ◌||◌, inl}
use Rattle.std.proofs.Common.{inr, is_some}
use Rattle.std.specs.Prelude.{bytes_eq, max, nat_lt}
use Rattle.std.specs.List.{list_any}
use Rattle.std.specs.Ordering.{nat_cmp, eq_by_cmp}
use Rattle.std.specs.Cmp.Lexicographic.{slice_cmp}
use Rattle.std.specs.FinMap.{find}
use Rattle.std.specs.FinMap.Entries.{is_some-find}
use Rattle.std.proofs.lemmas.Bool.{cases_lt, lt-ltb, le-ltb, or_parts}
use Rattle.std.proofs.lemmas.List.Folds.{list_any-append}
use Rattle.std.proofs.lemmas.Map.Text.{is_eq-slice_cmp}
use Rattle.std.proofs.lemmas.Slice.Eq.{bytes_eq-Decides}
use Rattle.stm_history.specs.declared.change.Change.{Change}
use Rattle.stm_history.specs.declared.key_state.KeyState.{KeyState}
use Rattle.stm_history.specs.Opening.{Opening, States, if_reached, opened_state}
use Rattle.stm_history.specs.History.{History, number_of_last, now, add_revision, revisions_up_to, key_of, change_of, after_change, key_after, key_at}
use Rattle.stm_history.specs.History.{AreRevisions}
use Rattle.stm_history.specs.Cut.{changed_before, keys_named, states_at, revisions_above, opening_of_cut, cut}
use Rattle.stm_history.specs.Laws.{CutShowsTheSame, CutKeepsKeysNow, CutKeepsNow, CutKeepsRevisions, CutGoesOn, CutAtTheOpening, CutTwice}
use Rattle.stm_history.proofs.HistoryLaws.{one_more, all_up_to, last_is_above, older_revisions_stay, last_revision_is_now, are_small, stays_small, small_opened}
use Rattle.stm_history.proofs.StatesLaws.{state_found, same_states}

-- ---- a key that a history does not name is absent

not_some : (o : Option KeyState) → is_some o ≡ false → o ≡ None
not_some o none = grind (arith, nat_tests)

-- the entries by their keys' bytes
any_by_bytes : (key : List ℕ) (keys : List (List ℕ)) → list_any (eq_by_cmp (slice_cmp nat_cmp) key) keys ≡ list_any (bytes_eq key) keys
any_by_bytes key [] = refl
any_by_bytes key (k ∷ keys) = grind (arith, nat_tests, is_eq-slice_cmp, any_by_bytes key keys)

none_opened : (opening : Opening) (key : List ℕ) → list_any (bytes_eq key) (map (λ (e : List ℕ × KeyState). e.0) opening.states) ≡ false →
    opened_state opening key ≡ None
none_opened opening key unnamed =
    ap (if_reached opening.number)
    (not_some (find (slice_cmp nat_cmp) key opening.states)
    (is_some-find (slice_cmp nat_cmp) key opening.states ∙ any_by_bytes key (map (λ (e : List ℕ × KeyState). e.0) opening.states) ∙ unnamed))

bytes_turned : (a b : List ℕ) → bytes_eq a b ≡ false → bytes_eq b a ≡ false
bytes_turned a b apart = grind (arith, bytes_eq-Decides)

none_changed : (key : List ℕ) (changes : List Change) → list_any (bytes_eq key) (map key_of changes) ≡ false → change_of key changes ≡ None
none_changed key [] unnamed = refl
none_changed key (c ∷ cs) unnamed = grind (arith, bytes_turned, or_parts, none_changed key cs)

absent_after : (opening : Opening) (key : List ℕ) (revisions : List (List Change)) →
    list_any (bytes_eq key) (changed_before revisions (map (λ (e : List ℕ × KeyState). e.0) opening.states)) ≡ false → key_after opening key revisions ≡ None
absent_after opening key [] unnamed = none_opened opening key unnamed
absent_after opening key (changes ∷ older) unnamed =
    let rest : List (List ℕ) = changed_before older (map (λ (e : List ℕ × KeyState). e.0) opening.states) in
    let parts = or_parts (list_any (bytes_eq key) (map key_of changes)) (list_any (bytes_eq key) rest)
    (sym (list_any-append (bytes_eq key) (map key_of changes) rest) ∙ unnamed) in
    one_more opening key changes older
    ∙ ap (λ (c : Option Change). after_change (number_of_last opening (changes ∷ older)) c (key_after opening key older)) (none_changed key changes parts.0)
    ∙ absent_after opening key older parts.1

-- fewer revisions name no more
unnamed_up_to : (opening : Opening) (r : ℕ) (key : List ℕ) (keys : List (List ℕ)) (revisions : List (List Change)) →
    list_any (bytes_eq key) (changed_before revisions keys) ≡ false → list_any (bytes_eq key) (changed_before (revisions_up_to opening r revisions) keys) ≡ false
unnamed_up_to opening r key keys [] unnamed = unnamed
unnamed_up_to opening r key keys (changes ∷ older) unnamed = grind (arith, nat_tests, list_any-append, or_parts, unnamed_up_to opening r key keys older)

absent_at : (h : History) (key : List ℕ) (r : ℕ) → list_any (bytes_eq key) (keys_named h) ≡ false → key_at h key r ≡ None
absent_at h key r unnamed = grind (arith, nat_tests, absent_after, unnamed_up_to)

-- what is found of a key among the states at a revision
pub found_at : (h : History) (r : ℕ) (key : List ℕ) → find (slice_cmp nat_cmp) key (states_at h r) ≡ key_at h key r
found_at h r key = state_found (λ k. key_at h k r) key (keys_named h) (absent_at h key r)

-- ---- revisions up to a number

-- they are within it
within : (opening : Opening) (r : ℕ) (revisions : List (List Change)) → opening.number ≤ r → number_of_last opening (revisions_up_to opening r revisions) ≤ r
within opening r [] opened = omega arith
within opening r (changes ∷ older) opened = grind (arith, nat_tests, within opening r older opened)

-- and those up to a number that was reached reach it
reaches : (opening : Opening) (number r : ℕ) (revisions : List (List Change)) → number ≤ r → number ≤ number_of_last opening revisions →
    number ≤ number_of_last opening (revisions_up_to opening r revisions)
reaches opening number r [] le reached = reached
reaches opening number r (changes ∷ older) le reached = grind (arith, nat_tests, reaches opening number r older le)

-- of those up to a number, those up to a lower one
up_to_twice : (opening : Opening) (number r : ℕ) (revisions : List (List Change)) → number ≤ r →
    revisions_up_to opening number (revisions_up_to opening r revisions) ≡ revisions_up_to opening number revisions
up_to_twice opening number r [] le = refl
up_to_twice opening number r (changes ∷ older) le = grind (arith, nat_tests, up_to_twice opening number r older)

-- ---- revisions above a number

pub taken_above : (opening : Opening) (number : ℕ) (changes : List Change) (older : List (List Change)) → number < number_of_last opening (changes ∷ older) →
    revisions_above opening number (changes ∷ older) ≡ changes ∷ revisions_above opening number older
taken_above opening number changes older less = grind (arith, nat_tests, lt-ltb)

pub none_above : (opening : Opening) (number : ℕ) (changes : List Change) (older : List (List Change)) → number_of_last opening (changes ∷ older) ≤ number →
    revisions_above opening number (changes ∷ older) ≡ []
none_above opening number changes older more = grind (arith, nat_tests, le-ltb)

still_revisions : (opening : Opening) (number : ℕ) (revisions : List (List Change)) → AreRevisions revisions → AreRevisions (revisions_above opening number revisions)
still_revisions opening number [] are = tt
still_revisions opening number (changes ∷ older) are = grind (arith, nat_tests, still_revisions opening number older are.1)

-- one opening above another, on the way of these revisions
module _ (old new : Opening) (above : old.number ≤ new.number) where
  pub cut_last : (revisions : List (List Change)) → new.number ≤ number_of_last old revisions →
      number_of_last new (revisions_above old new.number revisions) ≡ number_of_last old revisions
  cut_last [] reached = omega (arith, above, reached)
  cut_last (changes ∷ older) reached =
      elim (cases_lt new.number (number_of_last old (changes ∷ older))) [
        | inl less ↦
            let same : length (revisions_above old new.number (changes ∷ older)) ≡ length (changes ∷ revisions_above old new.number older) =
            ap (λ (l : List (List Change)). length l) (taken_above old new.number changes older less) in
            omega (arith, cut_last older (omega (arith, less)), same)
        | inr more ↦
            let same : length (revisions_above old new.number (changes ∷ older)) ≡ length (let none : List (List Change) = [] in none) =
            ap (λ (l : List (List Change)). length l) (none_above old new.number changes older more) in
            omega (arith, more, reached, same)
      ]

  pub next_number : (changes : List Change) (older : List (List Change)) → new.number ≤ number_of_last old older →
      number_of_last new (changes ∷ revisions_above old new.number older) ≡ number_of_last old (changes ∷ older)
  next_number changes older reached = omega (arith, cut_last older reached)

  pub cut_key : (key : List ℕ) (revisions : List (List Change)) → new.number ≤ number_of_last old revisions →
      opened_state new key ≡ key_after old key (revisions_up_to old new.number revisions) →
      key_after new key (revisions_above old new.number revisions) ≡ key_after old key revisions
  cut_key key [] reached opened = opened
  cut_key key (changes ∷ older) reached opened =
      let part : List (List Change) = revisions_above old new.number older in
      elim (cases_lt new.number (number_of_last old (changes ∷ older))) [
        | inl less ↦
            ap (key_after new key) (taken_above old new.number changes older less)
            ∙ one_more new key changes part
            ∙ ap (λ (n : ℕ). after_change n (change_of key changes) (key_after new key part)) (next_number changes older (omega (arith, less)))
            ∙ ap (after_change (number_of_last old (changes ∷ older)) (change_of key changes))
            (cut_key key older (omega (arith, less)) (opened ∙ ap (key_after old key) (last_is_above old new.number changes older less)))
            ∙ sym (one_more old key changes older)
        | inr more ↦
            ap (key_after new key) (none_above old new.number changes older more)
            ∙ opened
            ∙ ap (key_after old key) (all_up_to old new.number (changes ∷ older) more)
      ]

  pub cut_up_to : (r : ℕ) (revisions : List (List Change)) → new.number ≤ r → new.number ≤ number_of_last old revisions →
      revisions_up_to new r (revisions_above old new.number revisions) ≡ revisions_above old new.number (revisions_up_to old r revisions)
  cut_up_to r [] le reached = refl
  cut_up_to r (changes ∷ older) le reached =
      let part : List (List Change) = revisions_above old new.number older in
      elim (cases_lt new.number (number_of_last old (changes ∷ older))) [
        | inl less ↦ elim (cases_lt r (number_of_last old (changes ∷ older))) [
          | inl later ↦
              ap (revisions_up_to new r) (taken_above old new.number changes older less)
              ∙ last_is_above new r changes part (omega (arith, later, next_number changes older (omega (arith, less))))
              ∙ cut_up_to r older le (omega (arith, less))
              ∙ sym (ap (revisions_above old new.number) (last_is_above old r changes older later))
          | inr in_all ↦
              ap (revisions_up_to new r) (taken_above old new.number changes older less)
              ∙ all_up_to new r (changes ∷ part) (omega (arith, in_all, next_number changes older (omega (arith, less))))
              ∙ sym (taken_above old new.number changes older less)
              ∙ sym (ap (revisions_above old new.number) (all_up_to old r (changes ∷ older) in_all))
        ]
        | inr more ↦
            ap (revisions_up_to new r) (none_above old new.number changes older more)
            ∙ sym (none_above old new.number changes older more)
            ∙ sym (ap (revisions_above old new.number) (all_up_to old r (changes ∷ older) (omega (arith, more, le))))
      ]

  pub above_twice : (second : ℕ) (revisions : List (List Change)) → new.number ≤ second → new.number ≤ number_of_last old revisions →
      revisions_above new second (revisions_above old new.number revisions) ≡ revisions_above old second revisions
  above_twice second [] le reached = refl
  above_twice second (changes ∷ older) le reached =
      let part : List (List Change) = revisions_above old new.number older in
      elim (cases_lt new.number (number_of_last old (changes ∷ older))) [
        | inl less ↦ elim (cases_lt second (number_of_last old (changes ∷ older))) [
          | inl later ↦
              ap (revisions_above new second) (taken_above old new.number changes older less)
              ∙ taken_above new second changes part (omega (arith, later, next_number changes older (omega (arith, less))))
              ∙ ap (λ (l : List (List Change)). changes ∷ l) (above_twice second older le (omega (arith, less)))
              ∙ sym (taken_above old second changes older later)
          | inr passed ↦
              ap (revisions_above new second) (taken_above old new.number changes older less)
              ∙ none_above new second changes part (omega (arith, passed, next_number changes older (omega (arith, less))))
              ∙ sym (none_above old second changes older passed)
        ]
        | inr more ↦
            ap (revisions_above new second) (none_above old new.number changes older more)
            ∙ sym (none_above old second changes older (omega (arith, more, le)))
      ]

-- ---- histories

-- what is cut off, where the history opens below the number
pub cut_off : (number : ℕ) (h : History) → h.opening.number < number →
    cut number h ≡ record { opening = opening_of_cut number h; revisions = revisions_above h.opening number h.revisions }
cut_off number h less = grind (arith, nat_tests, lt-ltb)

pub cut_at_the_opening : CutAtTheOpening
cut_at_the_opening h number le = grind (arith, nat_tests, le-ltb)

-- what a key is at the opening of a cut
pub opened_by_cut : (number : ℕ) (h : History) (key : List ℕ) → h.opening.number ≤ number → opened_state (opening_of_cut number h) key ≡ key_at h key number
opened_by_cut number h key opened =
    ap (if_reached number) (found_at h number key)
    ∙ small_opened number (key_at h key number)
    (stays_small (number_of_last h.opening (revisions_up_to h.opening number h.revisions)) number (key_at h key number)
    (within h.opening number h.revisions opened) (are_small h.opening key (revisions_up_to h.opening number h.revisions)))

pub cut_keeps_now : CutKeepsNow
cut_keeps_now h number reached = grind (arith, nat_tests, cases_lt, cut_off, cut_last, cut_at_the_opening)

pub cut_shows_the_same : CutShowsTheSame
cut_shows_the_same h number reached key r le =
    let part : List (List Change) = revisions_up_to h.opening r h.revisions in
    elim (cases_lt h.opening.number number) [
      | inl less ↦
          ap (λ (g : History). key_at g key r) (cut_off number h less)
          ∙ ap (key_after (opening_of_cut number h) key)
          (cut_up_to h.opening (opening_of_cut number h) (omega (arith, less)) r h.revisions le reached)
          ∙ cut_key h.opening (opening_of_cut number h) (omega (arith, less)) key part (reaches h.opening number r h.revisions le reached)
          (opened_by_cut number h key (omega (arith, less)) ∙ ap (key_after h.opening key) (sym (up_to_twice h.opening number r h.revisions le)))
      | inr more ↦ ap (λ (g : History). key_at g key r) (cut_at_the_opening h number more)
    ]

pub cut_keeps_keys_now : CutKeepsKeysNow
cut_keeps_keys_now h number reached key =
    sym (last_revision_is_now (cut number h) key (now h) (omega (arith, cut_keeps_now h number reached)))
    ∙ cut_shows_the_same h number reached key (now h) reached
    ∙ last_revision_is_now h key (now h) (omega arith)

pub cut_keeps_revisions : CutKeepsRevisions
cut_keeps_revisions h number are = grind (arith, nat_tests, still_revisions)

-- the states at a number that two histories show alike are one list
pub same_states_at : (g h : History) (r : ℕ) → ((key : List ℕ) → key_at g key r ≡ key_at h key r) → states_at g r ≡ states_at h r
same_states_at g h r same =
    same_states (λ key. key_at g key r) (λ key. key_at h key r) (keys_named g) (keys_named h)
    (λ key. found_at g r key ∙ same key ∙ sym (found_at h r key))

-- a history by its opening and its revisions
history_of : ℕ → States → List (List Change) → History
history_of number states revisions = record { opening = record { number = number; states = states }; revisions = revisions }

pub cut_goes_on : CutGoesOn
unfolding history_of
cut_goes_on h number changes reached =
    let more : History = add_revision h changes in
    elim (cases_lt h.opening.number number) [
      | inl less ↦
          cut_off number more less
          ∙ ap (λ (l : List (List Change)). history_of number (states_at more number) l) (taken_above h.opening number changes h.revisions (omega (arith, reached)))
          ∙ ap (λ (s : States). history_of number s (changes ∷ revisions_above h.opening number h.revisions))
          (same_states_at more h number (λ key. older_revisions_stay h changes key number reached))
          ∙ sym (ap (λ (g : History). add_revision g changes) (cut_off number h less))
      | inr opened ↦ cut_at_the_opening more number opened ∙ sym (ap (λ (g : History). add_revision g changes) (cut_at_the_opening h number opened))
    ]

pub cut_twice : CutTwice
unfolding history_of
cut_twice h first second one two = grind (arith, nat_tests, cases_lt, cut_off, history_of, above_twice, same_states_at, cut_shows_the_same, cut_at_the_opening)
