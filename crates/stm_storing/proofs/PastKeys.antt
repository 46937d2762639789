-- The keys that were present at a revision, found one after another.
use Rattle.std.proofs.Common.{◌≡◌, ◌⊎◌, inl, inr, ⊎_elim, ℕ, zero, suc, ◌+◌, ◌<◌, ◌≤◌, Bool, true, false, cond, List, [], ◌∷◌, length, Option, None, Some}
use Rattle.std.proofs.Common.{IsSome, is_eq, nat_cmp, refl, sym, ◌∙◌, ap, subst, arith, eq-eqb, ne_eqb}
use Rattle.std.specs.Prelude.{bytes_eq, get_or, slice_get, nat_le}
use Rattle.std.specs.Cmp.Lexicographic.{slice_cmp, bytes_decides}
use Rattle.std.specs.List.Sorted.{IsStrictlySortedBy}
use Rattle.std.specs.Map.{keys_of, lookup}
use Rattle.std.proofs.lemmas.Bool.{cases_lt, cases_order, leb-false}
use Rattle.std.proofs.lemmas.Cmp.{nat_list_eq_equiv}
use Rattle.std.proofs.lemmas.Map.Text.{is_eq-slice_cmp}
use Rattle.stm_history.specs.declared.change.Change.{Change}
use Rattle.stm_history.specs.declared.key_state.KeyState.{KeyState}
use Rattle.stm_history.specs.Opening.{Opening}
use Rattle.stm_history.specs.History.{History, now, number_of_last, revisions_up_to, key_at, key_now, key_after}
use Rattle.stm_history.proofs.HistoryLaws.{one_more}
use Rattle.stm_keys.specs.declared.event.Event.{Event}
use Rattle.stm_keys.specs.Events.{events_above, events_numbered, events_of, event_about, after_event, key_of_event}
use Rattle.stm_keys.specs.Keys.{ListsPresent}
use Rattle.stm_keys.proofs.Recorded.{after_about}
use Rattle.stm_storing.specs.Past.{state_in, HasKey, IsPart, Adds, IsChangedIn, IsPast, StandsBelow}

module _ (h : History) (r : ℕ) where
  -- what is added twice
  pub both : {A B C : List ℕ → Type 0} {x y z : List (List ℕ × KeyState)} → ((q : List ℕ) → C q → A q ⊎ B q) → Adds h r A x y → Adds h r B y z → Adds h r C x z
  both covers first second = record {
    ordered = λ up. second.ordered (first.ordered up);
    part = λ p. second.part (first.part p);
    stays = λ q has. second.stays q (first.stays q has);
    has = λ p q c. ⊎_elim (λ a. second.stays q (first.has p q a)) (λ b. second.has (first.part p) q b) (covers q c);
  }

  -- nothing is added
  pub nothing_added : {A : List ℕ → Type 0} {x : List (List ℕ × KeyState)} → ((q : List ℕ) → A q → ⊥) → Adds h r A x x
  nothing_added never = record { ordered = λ up. up; part = λ p. p; stays = λ q has. has; has = λ p q a. absurd (never q a) }

  -- a key that was absent
  pub absent : (key : List ℕ) (x : List (List ℕ × KeyState)) → key_at h key r ≡ None → Adds h r (λ q. q ≡ key) x x
  absent key x gone = record {
    ordered = λ up. up;
    part = λ p. p;
    stays = λ q has. has;
    has = λ p q is. ⊎_elim (λ none. none ∙ sym (ap (λ (k : List ℕ). key_at h k r) is ∙ gone)) (λ has. has) (p q);
  }

  -- a key that was present, in this state
  module _ (key : List ℕ) (s : KeyState) (x y : List (List ℕ × KeyState)) (is : key_at h key r ≡ Some s)
      (finds : (q : List ℕ) → state_in y q ≡ cond (is_eq (slice_cmp nat_cmp key q)) (Some s) (state_in x q)) where
    found : (q : List ℕ) (same : Bool) → bytes_eq q key ≡ same → state_in y q ≡ cond same (Some s) (state_in x q)
    found q same so =
        finds q ∙ ap (λ (b : Bool). cond b (Some s) (state_in x q)) ((is_eq-slice_cmp key q ∙ nat_list_eq_equiv.symm key q) ∙ so)

    here : (q : List ℕ) → q ≡ key → HasKey h r y q
    here q same = found q true ((bytes_decides q key).1 same) ∙ sym (ap (λ (k : List ℕ). key_at h k r) same ∙ is)

    either : (q : List ℕ) (same : Bool) → bytes_eq q key ≡ same → HasKey h r y q ⊎ (state_in y q ≡ state_in x q)
    either q true same = inl (here q ((bytes_decides q key).0 same))
    either q false other = inr (found q false other)

    pub put : (IsStrictlySortedBy (slice_cmp nat_cmp) (keys_of x) → IsStrictlySortedBy (slice_cmp nat_cmp) (keys_of y)) → Adds h r (λ q. q ≡ key) x y
    put up = record {
      ordered = up;
      part = λ p q.
          ⊎_elim (λ has. inr has) (λ same. ⊎_elim (λ none. inl (same ∙ none)) (λ has. inr (same ∙ has)) (p q)) (either q (bytes_eq q key) refl);
      stays = λ q has. ⊎_elim (λ new. new) (λ same. same ∙ has) (either q (bytes_eq q key) refl);
      has = λ p q same. here q same;
    }

  -- the same of copies of the key and of the state
  pub put_copy : (key : List ℕ) (s : KeyState) (copy : List ℕ) (t : KeyState) (x y : List (List ℕ × KeyState)) → key_at h key r ≡ Some s → copy ≡ key → t ≡ s
      → ((q : List ℕ) → state_in y q ≡ cond (is_eq (slice_cmp nat_cmp copy q)) (Some t) (state_in x q))
      → (IsStrictlySortedBy (slice_cmp nat_cmp) (keys_of x) → IsStrictlySortedBy (slice_cmp nat_cmp) (keys_of y)) → Adds h r (λ q. q ≡ key) x y
  put_copy key s copy t x y is same_key same_state finds up =
      put key s x y is
      (λ q. finds q ∙ ap (λ (k : List ℕ). cond (is_eq (slice_cmp nat_cmp k q)) (Some t) (state_in x q)) same_key
      ∙ ap (λ (u : KeyState). cond (is_eq (slice_cmp nat_cmp key q)) (Some u) (state_in x q)) same_state) up

-- ---- keys by their places in a list

module _ {X : Type 0} (key_of : X → List ℕ) (xs : List X) where
  pub none_below : (q : List ℕ) → StandsBelow key_of xs 0 q → ⊥
  none_below q (j, x, below, is, same) = absurd (omega (arith, below))

  same_item : (x y : X) (i j : ℕ) → slice_get xs i ≡ Some x → slice_get xs j ≡ Some y → j ≡ i → y ≡ x
  same_item x y i j is at eq = let one : Some y ≡ Some x = sym at ∙ ap (slice_get xs) eq ∙ is in cc

  pub one_below : (i : ℕ) (x : X) (key : List ℕ) → slice_get xs i ≡ Some x → key ≡ key_of x → (q : List ℕ) → StandsBelow key_of xs (i + 1) q
      → StandsBelow key_of xs i q ⊎ (q ≡ key)
  one_below i x key is named q (j, y, below, at, same) =
      ⊎_elim
      (λ (eq : j ≡ i). inr (same ∙ ap key_of (same_item x y i j is at eq) ∙ sym named))
      (λ other. ⊎_elim
      (λ (less : j < i). inl (j, y, less, at, same))
      (λ (more : i < j). absurd (omega (arith, below, more)))
      other)
      (cases_order j i)

-- the item of a loop stands at its place
pub at_place : {X : Type 0} (xs : List X) (i : ℕ) (x : X) → i < length xs → x ≡ get_or xs i x → slice_get xs i ≡ Some x
at_place [] i x within is = absurd (omega (arith, within))
at_place (y ∷ ys) zero x within is = ap Some (sym is)
at_place (y ∷ ys) (suc i) x within is = at_place ys i x (omega (arith, within)) is

-- a key that is looked up stands somewhere
pub looked_up : (present : List (List ℕ × KeyState)) (q : List ℕ) (s : KeyState) → lookup (bytes_eq q) present ≡ Some s
    → StandsBelow (λ (p : List ℕ × KeyState). p.0) present (length present) q
looked_up [] q s is = absurd (cc)
looked_up (p ∷ present) q s is = by (bytes_eq q p.0) refl (looked_up present q s) is
  where
    by : (b : Bool) → bytes_eq q p.0 ≡ b
        → (lookup (bytes_eq q) present ≡ Some s → StandsBelow (λ (p : List ℕ × KeyState). p.0) present (length present) q) → cond b (Some p.1) (lookup (bytes_eq q) present) ≡ Some s
        → StandsBelow (λ (p : List ℕ × KeyState). p.0) (p ∷ present) (length (p ∷ present)) q
    by true same further e = (0, p, omega arith, refl, (bytes_decides q p.0).0 same)
    by false other further e = let d = further e in (suc d.0, d.1, omega (arith, d.2), d.3, d.4)

-- and so does the key of an event
pub event_stands : (events : List Event) (q : List ℕ) (e : Event) → event_about q events ≡ Some e → StandsBelow key_of_event events (length events) q
event_stands [] q e is = absurd (cc)
event_stands (x ∷ events) q e is = by (bytes_eq (key_of_event x) q) refl (event_stands events q e) is
  where
    by : (b : Bool) → bytes_eq (key_of_event x) q ≡ b → (event_about q events ≡ Some e → StandsBelow key_of_event events (length events) q) → cond b (Some x) (event_about q events) ≡ Some e
        → StandsBelow key_of_event (x ∷ events) (length (x ∷ events)) q
    by true same further is_it = (0, x, omega arith, refl, sym ((bytes_decides (key_of_event x) q).0 same))
    by false other further rest = let d = further rest in (suc d.0, d.1, omega (arith, d.2), d.3, d.4)

-- ---- a key that no later event is about

module _ (opening : Opening) (r : ℕ) (key : List ℕ) where
  unchanged : (revisions : List (List Change))
      → ((n : ℕ) → r < n → n ≤ number_of_last opening revisions → event_about key (events_numbered opening n revisions) ≡ None)
      → key_after opening key (revisions_up_to opening r revisions) ≡ key_after opening key revisions
  unchanged [] quiet = refl
  unchanged (changes ∷ older) quiet = by (nat_le number r) refl (unchanged older of_older)
    where
      number : ℕ
      number = number_of_last opening (changes ∷ older)

      of_older : (n : ℕ) → r < n → n ≤ number_of_last opening older → event_about key (events_numbered opening n older) ≡ None
      of_older n low high =
          ap (λ (b : Bool). event_about key (cond b (events_above opening changes older) (events_numbered opening n older)))
          (sym (ne_eqb number n (λ (e : number ≡ n). omega (arith, high, e))))
          ∙ quiet n low (omega (arith, high))

      last : r < number → event_about key (events_above opening changes older) ≡ None
      last above =
          ap (λ (b : Bool). event_about key (cond b (events_above opening changes older) (events_numbered opening number older)))
          (sym (eq-eqb number number refl))
          ∙ quiet number above (omega arith)

      by : (b : Bool) → nat_le number r ≡ b → key_after opening key (revisions_up_to opening r older) ≡ key_after opening key older → key_after opening key (cond b (changes ∷ older) (revisions_up_to opening r older)) ≡ key_after opening key (changes ∷ older)
      by true at rest = refl
      by false at rest =
          rest
          ∙ ap (λ (e : Option Event). after_event e (key_after opening key older)) (sym (last (leb-false number r at)))
          ∙ after_about number (λ q. key_after opening q older) key changes
          ∙ sym (one_more opening key changes older)

-- A key is present now, or an event since is about it, or it was absent.
pub covered : (h : History) (r : ℕ) (past : List (List ℕ × KeyState)) → IsPart h r past
    → ((q : List ℕ) → IsSome (key_now h q) → HasKey h r past q) → ((q : List ℕ) → IsChangedIn h r (now h) q → HasKey h r past q)
    → (q : List ℕ) → HasKey h r past q
covered h r past part present changed q =
    ⊎_elim (λ (none : state_in past q ≡ None). ⊎_elim (λ has. has) (λ quiet. absent_then none quiet) (each (now h) (omega arith))) (λ has. has) (part q)
  where
    Quiet : ℕ → Type 0
    Quiet m = (n : ℕ) → r < n → n ≤ m → event_about q (events_of h n) ≡ None

    none_of : (e : Option Event) → (IsSome e → HasKey h r past q) → HasKey h r past q ⊎ (e ≡ None)
    none_of None found = inr refl
    none_of (Some e) found = inl (found refl)

    next : (m : ℕ) → suc m ≤ now h → Quiet m → (r < suc m) ⊎ (suc m ≤ r) → HasKey h r past q ⊎ Quiet (suc m)
    next m le quiet (inl low) =
        ⊎_elim (λ has. inl has)
        (λ (none : event_about q (events_of h (suc m)) ≡ None). inr (λ n above high. ⊎_elim
        (λ (eq : n ≡ suc m). subst (λ (k : ℕ). event_about q (events_of h k) ≡ None) (sym eq) none)
        (λ other. ⊎_elim (λ (less : n < suc m). quiet n above (omega (arith, less))) (λ (more : suc m < n). absurd (omega (arith, more, high))) other)
        (cases_order n (suc m))))
        (none_of (event_about q (events_of h (suc m))) (λ some. changed q (suc m, low, le, some)))
    next m le quiet (inr high) = inr (λ n above within. absurd (omega (arith, above, within, high)))

    each : (m : ℕ) → m ≤ now h → HasKey h r past q ⊎ Quiet m
    each zero le = inr (λ n above within. absurd (omega (arith, above, within)))
    each (suc m) le = ⊎_elim (λ has. inl has) (λ quiet. next m le quiet (cases_lt r (suc m))) (each m (omega (arith, le)))

    now_or : (k : Option KeyState) → key_now h q ≡ k → HasKey h r past q ⊎ (key_now h q ≡ None)
    now_or None is = inr is
    now_or (Some s) is = inl (present q (subst (λ (k : Option KeyState). IsSome k) (sym is) refl))

    absent_then : state_in past q ≡ None → Quiet (now h) → HasKey h r past q
    absent_then none quiet =
        ⊎_elim (λ has. has) (λ absent_now. none ∙ sym (unchanged h.opening r q h.revisions quiet ∙ absent_now)) (now_or (key_now h q) refl)

-- ---- the loops

-- the keys that are present
pub present_stand : (h : History) (present : List (List ℕ × KeyState)) → ListsPresent h present → (q : List ℕ) → IsSome (key_now h q)
    → StandsBelow (λ (p : List ℕ × KeyState). p.0) present (length present) q
present_stand h present lists q some = by (lookup (bytes_eq q) present) refl (subst (λ (k : Option KeyState). IsSome k) (sym (lists.states q)) some)
  where
    by : (k : Option KeyState) → lookup (bytes_eq q) present ≡ k → IsSome k → StandsBelow (λ (p : List ℕ × KeyState). p.0) present (length present) q
    by None is found = absurd (cc)
    by (Some s) is found = looked_up present q s is

-- the keys of events
pub events_stand : (events : List Event) (q : List ℕ) → IsSome (event_about q events) → StandsBelow key_of_event events (length events) q
events_stand events q some = by (event_about q events) refl some
  where
    by : (e : Option Event) → event_about q events ≡ e → IsSome e → StandsBelow key_of_event events (length events) q
    by None is found = absurd (cc)
    by (Some e) is found = event_stands events q e is

module _ (h : History) (r : ℕ) {X : Type 0} (key_of : X → List ℕ) (xs : List X) where
  -- one more place
  pub place_added : {x y z : List (List ℕ × KeyState)} (i : ℕ) (item : X) (key : List ℕ) → slice_get xs i ≡ Some item → key ≡ key_of item
      → Adds h r (StandsBelow key_of xs i) x y → Adds h r (λ q. q ≡ key) y z → Adds h r (StandsBelow key_of xs (i + 1)) x z
  place_added i item key is named first second = both h r (one_below key_of xs i item key is named) first second

  pub no_place : {x : List (List ℕ × KeyState)} → Adds h r (StandsBelow key_of xs 0) x x
  no_place = nothing_added h r (none_below key_of xs)

-- all of them
pub narrowed : {A B : List ℕ → Type 0} (h : History) (r : ℕ) {x y : List (List ℕ × KeyState)} → ((q : List ℕ) → B q → A q) → Adds h r A x y → Adds h r B x y
narrowed h r covers added = record {
  ordered = added.ordered;
  part = added.part;
  stays = added.stays;
  has = λ p q b. added.has p q (covers q b);
}

-- one more revision
pub revision_added : (h : History) (r at : ℕ) {x y z : List (List ℕ × KeyState)} → Adds h r (IsChangedIn h r at) x y
    → Adds h r (λ q. IsSome (event_about q (events_of h (at + 1)))) y z → Adds h r (IsChangedIn h r (at + 1)) x z
revision_added h r at first second = both h r
    (λ q changed. by q changed (cases_order changed.0 (at + 1)))
    first second
  where
    by : (q : List ℕ) (c : IsChangedIn h r (at + 1) q) → (c.0 ≡ at + 1) ⊎ ((c.0 < at + 1) ⊎ (at + 1 < c.0))
        → IsChangedIn h r at q ⊎ IsSome (event_about q (events_of h (at + 1)))
    by q (n, above, within, some) (inl same) = inr (subst (λ (k : ℕ). IsSome (event_about q (events_of h k))) same some)
    by q (n, above, within, some) (inr (inl less)) = inl (n, above, omega (arith, less), some)
    by q (n, above, within, some) (inr (inr more)) = absurd (omega (arith, within, more))

pub no_revision : (h : History) (r : ℕ) {x : List (List ℕ × KeyState)} → Adds h r (IsChangedIn h r r) x x
no_revision h r = nothing_added h r (λ q c. absurd (omega (arith, c.1, c.2)))

-- ---- all of them

none_yet : IsStrictlySortedBy (slice_cmp nat_cmp) []
unfolding IsStrictlySortedBy
none_yet = tt

pub all_past : (h : History) (r : ℕ) (x y z : List (List ℕ × KeyState)) → x ≡ [] → Adds h r (λ q. IsSome (key_now h q)) x y
    → Adds h r (IsChangedIn h r (now h)) y z → IsPast h r z
all_past h r x y z is first second = record {
  ascending = second.ordered (first.ordered (subst (λ (past : List (List ℕ × KeyState)). IsStrictlySortedBy (slice_cmp nat_cmp) (keys_of past)) (sym is) none_yet));
  each = covered h r z (second.part (first.part nothing)) (λ q some. second.stays q (first.has nothing q some)) (λ q changed. second.has (first.part nothing) q changed);
}
  where
    nothing : IsPart h r x
    nothing q = inl (ap (λ (past : List (List ℕ × KeyState)). state_in past q) is)
