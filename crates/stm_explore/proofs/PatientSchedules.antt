-- Schedules in which runners wait, as a search goes through them.
use Rattle.std.proofs.Common.{◌≡◌, ◌≢◌, ℕ, zero, suc, ◌<◌, ◌≤◌, Bool, true, false, cond, nat_eq, List, [], ◌∷◌, length, filter, Contains, Option, Some, None}
use Rattle.std.proofs.Common.{option_map, inl, inr, ◌⊎◌, refl, sym, ◌∙◌, ap, subst, arith}
use Rattle.std.specs.Option.{option_or}
use Rattle.stm_program.specs.Syntax.{ProgramTree}
use Rattle.stm_events.specs.declared.event.WorldEvent.{WorldEvent}
use Rattle.stm_world.proofs.Slots.{equal_numbers, differ}
use Rattle.stm_schedules.specs.declared.moves.Move.{Move}
use Rattle.stm_schedules.specs.Places.{Place, moves}
use Rattle.stm_schedules.specs.Schedules.{place_after}
use Rattle.stm_schedules.specs.Outcomes.{Ends, ends_moved}
use Rattle.stm_schedules.proofs.BadSchedules.{kept_here}
use Rattle.stm_schedules.proofs.Gathered.{outcomes_are_those}
use Rattle.stm_schedules.proofs.Members.{IsAmong, among, contained, or_none, map_none, map_some, some_pass}
use Rattle.stm_visited.specs.Search.{first_of, bad_at, first_bad, goes_on}
use Rattle.stm_visited.proofs.Founds.{none_found, none_passes}
use Rattle.stm_explore.specs.declared.places.ReportedPlace.{ReportedPlace}
use Rattle.stm_explore.specs.declared.waits.Wait.{Wait}
use Rattle.stm_explore.specs.Spots.{place_of, reported_after}
use Rattle.stm_explore.specs.AlikeSpots.{after_is_moved}
use Rattle.stm_explore.specs.declared.asking.When.{When}
use Rattle.stm_explore.specs.Asked.{asks}
use Rattle.stm_explore.specs.Waiting.{is_allowed, IsPatient, allowed, waiting_steps, kept_after}

-- ---- what a filter keeps

kept_by : {A : Type 0} (test : A → Bool) (x y : A) (ys : List A) (b : Bool) → test y ≡ b → (y ≡ x) ⊎ IsAmong x (filter test ys) → test x ≡ true →
    IsAmong x (cond b (y ∷ filter test ys) (filter test ys))
kept_by test x y ys true is a passes = a
kept_by test x y ys false is a passes = elim a [
  | inl same ↦ let wrong : true ≡ false = sym passes ∙ ap test (sym same) ∙ is in absurd (cc)
  | inr there ↦ there
]

pub is_kept : {A : Type 0} (test : A → Bool) (x : A) (xs : List A) → IsAmong x xs → test x ≡ true → IsAmong x (filter test xs)
is_kept test x [] a passes = absurd a
is_kept test x (y ∷ ys) a passes = kept_by test x y ys (test y) refl (elim a [
  | inl same ↦ inl same
  | inr there ↦ inr (is_kept test x ys there passes)
]) passes

abbrev pub WasThere : {A : Type 0} → (A → Bool) → A → List A → Type 0
WasThere test x xs = IsAmong x xs × (test x ≡ true)

was_there_by : {A : Type 0} (test : A → Bool) (x y : A) (ys : List A) (b : Bool) → test y ≡ b → (IsAmong x (filter test ys) → WasThere test x ys) →
    IsAmong x (cond b (y ∷ filter test ys) (filter test ys)) → WasThere test x (y ∷ ys)
was_there_by test x y ys true is rest a = elim a [
  | inl same ↦ (inl same, ap test (sym same) ∙ is)
  | inr there ↦ let was = rest there in (inr was.0, was.1)
]
was_there_by test x y ys false is rest a = let was = rest a in (inr was.0, was.1)

pub was_there : {A : Type 0} (test : A → Bool) (x : A) (xs : List A) → IsAmong x (filter test xs) → WasThere test x xs
was_there test x [] a = absurd a
was_there test x (y ∷ ys) a = was_there_by test x y ys (test y) refl (was_there test x ys) a

-- ---- the first that is found

pub record FoundAt (A B : Type 0) (f : A → Option B) (xs : List A) (y : B) : Type 0 where
  pub it : A
  pub there : Contains xs it
  pub gives : f it ≡ Some y

later : (A B : Type 0) (f : A → Option B) (x : A) (xs : List A) (y : B) → FoundAt A B f xs y → FoundAt A B f (x ∷ xs) y
later A B f x xs y found =
    record { it = found.it; there = contained found.it (x ∷ xs) (inr (among found.it xs found.there)); gives = found.gives }

found_by : (A B : Type 0) (f : A → Option B) (x : A) (xs : List A) (y : B) (o : Option B) → f x ≡ o → (first_of f xs ≡ Some y → FoundAt A B f xs y) →
    option_or o (first_of f xs) ≡ Some y → FoundAt A B f (x ∷ xs) y
found_by A B f x xs y None is rest found = later A B f x xs y (rest found)
found_by A B f x xs y (Some z) is rest found = record { it = x; there = contained x (x ∷ xs) (inl refl); gives = is ∙ found }

pub found_at : (A B : Type 0) (f : A → Option B) (xs : List A) (y : B) → first_of f xs ≡ Some y → FoundAt A B f xs y
found_at A B f [] y found = absurd (cc)
found_at A B f (x ∷ xs) y found = found_by A B f x xs y (f x) refl (found_at A B f xs y) found

-- ---- schedules from a place of the search

abbrev FromHere : List Wait → List WorldEvent → List Move → ReportedPlace → Type 0
FromHere waits others schedule p = IsPatient waits schedule (place_of others p.at) p.ends

module _ (waits : List Wait) (when : When) (rule : ProgramTree) (others : List WorldEvent) where
  abbrev keeps_after : List Move → ReportedPlace → Bool
  keeps_after schedule p = kept_after waits when rule schedule (place_of others p.at) p.ends

  -- after the first of its moves
  next_here : (m : Move) (ms : List Move) (p : ReportedPlace) → FromHere waits others (m ∷ ms) p →
      Contains ((waiting_steps waits when rule others).moves p) m × FromHere waits others ms (reported_after others m p)
  next_here m ms p ((there, rest), (allowed, further)) = (
    contained m (filter (is_allowed waits p.ends) (moves (place_of others p.at)))
        (is_kept (is_allowed waits p.ends) m (moves (place_of others p.at)) (among m (moves (place_of others p.at)) there) allowed),
    subst (λ (q : Place). IsPatient waits ms q (ends_moved m (place_of others p.at) p.ends)) (sym (after_is_moved others m p.at)) (rest, further),
  )

  -- with a move before it
  before_here : (m : Move) (ms : List Move) (p : ReportedPlace) → Contains ((waiting_steps waits when rule others).moves p) m →
      FromHere waits others ms (reported_after others m p) → FromHere waits others (m ∷ ms) p
  before_here m ms p there rest =
      let was = was_there (is_allowed waits p.ends) m (moves (place_of others p.at))
      (among m (filter (is_allowed waits p.ends) (moves (place_of others p.at))) there) in
      let further = subst (λ (q : Place). IsPatient waits ms q (ends_moved m (place_of others p.at) p.ends)) (after_is_moved others m p.at) rest in
      ((contained m (moves (place_of others p.at)) was.0, further.0), (was.1, further.1))

  same_end : (m : Move) (ms : List Move) (p : ReportedPlace) → keeps_after ms (reported_after others m p) ≡ keeps_after (m ∷ ms) p
  same_end m ms p =
      ap (λ (q : Place). kept_after waits when rule ms q (ends_moved m (place_of others p.at) p.ends)) (after_is_moved others m p.at)
      ∙ ap (λ (known : Ends). asks when rule (allowed waits known (place_after (m ∷ ms) (place_of others p.at)))
      (place_after (m ∷ ms) (place_of others p.at)).world.standing.history known) (sym (outcomes_are_those.ends m ms (place_of others p.at) p.ends))

  -- what follows a move, with the move before it
  abbrev bad_after : ℕ → ReportedPlace → Move → Option (List Move)
  bad_after n p m = option_map (λ (ms : List Move). m ∷ ms) (bad_at (waiting_steps waits when rule others) n (reported_after others m p))

  none_bad : (n : ℕ) (p : ReportedPlace) (schedule : List Move) → bad_at (waiting_steps waits when rule others) n p ≡ None → FromHere waits others schedule p →
      length schedule ≡ n → keeps_after schedule p ≡ true
  none_bad zero p [] none from as_long = kept_here (keeps_after [] p) none
  none_bad zero p (m ∷ ms) none from as_long = absurd (omega arith)
  none_bad (suc n) p [] none from as_long = absurd (omega arith)
  none_bad (suc n) p (m ∷ ms) none from as_long =
      let next = next_here m ms p from in
      sym (same_end m ms p)
      ∙ none_bad n (reported_after others m p) ms
      (map_none (λ (rest : List Move). m ∷ rest) (bad_at (waiting_steps waits when rule others) n (reported_after others m p))
      (none_found (bad_after n p) ((waiting_steps waits when rule others).moves p) m next.0 none)) next.1 (omega arith)

  pub none_bad_up_to : (n : ℕ) (p : ReportedPlace) (schedule : List Move) → first_bad (waiting_steps waits when rule others) n p ≡ None →
      FromHere waits others schedule p → length schedule ≤ n → keeps_after schedule p ≡ true
  none_bad_up_to zero p schedule none from within = none_bad zero p schedule none from (omega arith)
  none_bad_up_to (suc n) p schedule none from within =
      let both = or_none (first_bad (waiting_steps waits when rule others) n p) (bad_at (waiting_steps waits when rule others) (suc n) p) none in
      elim (nat_eq (length schedule) (suc n)) as (λ b. nat_eq (length schedule) (suc n) ≡ b → keeps_after schedule p ≡ true) [
        | true ↦ λ e. none_bad (suc n) p schedule both.1 from (equal_numbers (length schedule) (suc n) e)
        | false ↦ λ e. let other : length schedule ≢ suc n = differ (length schedule) (suc n) e in none_bad_up_to n p schedule both.0 from (omega arith)
      ] refl

  -- no schedule is longer than the moves go on
  pub none_longer : (n : ℕ) (p : ReportedPlace) (schedule : List Move) → goes_on (waiting_steps waits when rule others) (suc n) p ≡ false →
      FromHere waits others schedule p → length schedule ≤ n
  none_longer n p [] ends from = omega arith
  none_longer zero p (m ∷ ms) ends from =
      let next = next_here m ms p from in
      let none : true ≡ false = none_passes (λ (o : Move). goes_on (waiting_steps waits when rule others) zero (reported_after others o p))
      ((waiting_steps waits when rule others).moves p) m next.0 ends in
      absurd (cc)
  none_longer (suc n) p (m ∷ ms) ends from =
      let next = next_here m ms p from in
      let rest : length ms ≤ n = none_longer n (reported_after others m p) ms
      (none_passes (λ (o : Move). goes_on (waiting_steps waits when rule others) (suc n) (reported_after others o p))
      ((waiting_steps waits when rule others).moves p) m next.0 ends) next.1 in
      omega arith

  -- a schedule of n moves that does not keep the rule
  pub record IsBadAt (n : ℕ) (p : ReportedPlace) (schedule : List Move) : Type 0 where
    pub from : FromHere waits others schedule p
    pub is_bad : keeps_after schedule p ≡ false
    pub as_long : length schedule ≡ n

  bad_here : (p : ReportedPlace) (schedule : List Move) (b : Bool) → keeps_after [] p ≡ b → cond b None (Some []) ≡ Some schedule → IsBadAt zero p schedule
  bad_here p schedule true is found = absurd (cc)
  bad_here p schedule false is found =
      let nothing : [] ≡ schedule = cc in
      subst (λ (ms : List Move). IsBadAt zero p ms) nothing (record { from = (tt, tt); is_bad = is; as_long = refl })

  is_bad_at : (n : ℕ) (p : ReportedPlace) (schedule : List Move) → bad_at (waiting_steps waits when rule others) n p ≡ Some schedule → IsBadAt n p schedule
  is_bad_at zero p schedule found = bad_here p schedule (keeps_after [] p) refl found
  is_bad_at (suc n) p schedule found =
      let first = found_at Move (List Move) (bad_after n p) ((waiting_steps waits when rule others).moves p) schedule found in
      let rest = map_some (λ (ms : List Move). first.it ∷ ms) (bad_at (waiting_steps waits when rule others) n (reported_after others first.it p)) schedule first.gives in
      let bad = is_bad_at n (reported_after others first.it p) rest.0 rest.1 in
      subst (λ (ms : List Move). IsBadAt (suc n) p ms) rest.2 (record {
        from = before_here first.it rest.0 p first.there bad.from;
        is_bad = sym (same_end first.it rest.0 p) ∙ bad.is_bad;
        as_long = ap suc bad.as_long;
      })

  first_within_by : (n : ℕ) (p : ReportedPlace) (schedule : List Move) (o : Option (List Move)) → first_bad (waiting_steps waits when rule others) n p ≡ o →
      ((ms : List Move) → first_bad (waiting_steps waits when rule others) n p ≡ Some ms → length ms ≤ n) →
      option_or o (bad_at (waiting_steps waits when rule others) (suc n) p) ≡ Some schedule → length schedule ≤ suc n
  first_within_by n p schedule None is fewer found =
      let long : length schedule ≡ suc n = (is_bad_at (suc n) p schedule found).as_long in omega arith
  first_within_by n p schedule (Some ms) is fewer found = let within : length schedule ≤ n = fewer schedule (is ∙ found) in omega arith

  first_within : (n : ℕ) (p : ReportedPlace) (schedule : List Move) → first_bad (waiting_steps waits when rule others) n p ≡ Some schedule → length schedule ≤ n
  first_within zero p schedule found = let long : length schedule ≡ zero = (is_bad_at zero p schedule found).as_long in omega arith
  first_within (suc n) p schedule found =
      first_within_by n p schedule (first_bad (waiting_steps waits when rule others) n p) refl (λ ms is. first_within n p ms is) found

  -- the first schedule that does not keep the rule, and none that is shorter does not
  pub record IsFirst (p : ReportedPlace) (schedule : List Move) : Type 0 where
    pub from : FromHere waits others schedule p
    pub is_bad : keeps_after schedule p ≡ false
    pub shorter_keep : (other : List Move) → FromHere waits others other p → length other < length schedule → keeps_after other p ≡ true

  first_by : (n : ℕ) (p : ReportedPlace) (schedule : List Move) (o : Option (List Move)) → first_bad (waiting_steps waits when rule others) n p ≡ o →
      length schedule ≡ suc n → option_or o (bad_at (waiting_steps waits when rule others) (suc n) p) ≡ Some schedule → IsFirst p schedule
  first_by n p schedule None is long found =
      let bad = is_bad_at (suc n) p schedule found in
      record { from = bad.from; is_bad = bad.is_bad; shorter_keep = λ other from less. none_bad_up_to n p other is from (omega arith) }
  first_by n p schedule (Some ms) is long found =
      let within : length schedule ≤ n = first_within n p schedule (is ∙ found) in absurd (omega arith)

  pub is_first : (n : ℕ) (p : ReportedPlace) (schedule : List Move) → length schedule ≡ n → first_bad (waiting_steps waits when rule others) n p ≡ Some schedule →
      IsFirst p schedule
  is_first zero p schedule long found =
      let bad = is_bad_at zero p schedule found in
      record { from = bad.from; is_bad = bad.is_bad; shorter_keep = λ other from less. absurd (omega arith) }
  is_first (suc n) p schedule long found = first_by n p schedule (first_bad (waiting_steps waits when rule others) n p) refl long found

  pub as_long : (n : ℕ) (p : ReportedPlace) → goes_on (waiting_steps waits when rule others) n p ≡ true → (schedule : List Move) × FromHere waits others schedule p × (length schedule ≡ n)
  as_long zero p is = ([], (tt, tt), refl)
  as_long (suc n) p is =
      let first = some_pass (λ (o : Move). goes_on (waiting_steps waits when rule others) n (reported_after others o p)) ((waiting_steps waits when rule others).moves p) is in
      let rest = as_long n (reported_after others first.0 p) first.2 in
      (first.0 ∷ rest.0, before_here first.0 rest.0 p (contained first.0 ((waiting_steps waits when rule others).moves p) first.1) rest.1, ap suc rest.2)
