-- What is pending for a watcher: what a poll gives of it and what it leaves, and what a new revision adds.
use Rattle.std.proofs.Common.{◌≡◌, ℕ, ◌+◌, ◌-◌, ◌≤◌, ◌<◌, max, zero, suc, Bool, true, false, cond, inl, inr}
use Rattle.std.proofs.Common.{List, [], ◌∷◌, ◌++◌, length, take, Option, refl, sym, ◌∙◌, ap, subst, arith, append-nil, append_assoc, take_all}
use Rattle.std.specs.Prelude.{nat_eq, nat_lt, nat_le, ◌&&◌, IfSome}
use Rattle.std.proofs.Math.Nat.{le-max_right}
use Rattle.std.proofs.lemmas.Bool.{cases_lt, lt-ltb, le-ltb, leb-true, ltb-true, ltb-false, Decides.nat_tests}
use Rattle.std.proofs.lemmas.Grind.{flat_map-append}
use Rattle.stm_history.specs.declared.change.Change.{Change}
use Rattle.stm_history.specs.Opening.{Opening}
use Rattle.stm_history.specs.History.{History, number_of_last, now, add_revision}
use Rattle.stm_keys.specs.declared.event.Event.{Event}
use Rattle.stm_keys.specs.Events.{events_above}
use Rattle.stm_outcome.specs.Outcome.{with_changes}
use Rattle.stm_watch.specs.declared.pending_revision.PendingRevision.{PendingRevision}
use Rattle.stm_watch.specs.declared.watched.Watched.{Watched}
use Rattle.stm_watch.specs.Watching.{Watching}
use Rattle.stm_watch.specs.Places.{is_lost}
use Rattle.stm_watch.specs.Pending.{watching_from, matching, pending_of_revision, pending_above, pending, number_of_first, first_pending, pending_events, last_number, batch_of, after_poll}

-- what is reported of a revision with these events, where it is above what was seen
abbrev part : ℕ → ℕ → List Event → List PendingRevision
part seen n events = cond (nat_lt seen n) (pending_of_revision n events) []

-- the events of the last revision that match
abbrev of_last : Opening → Watched → List Change → List (List Change) → List Event
of_last opening watched changes older = matching watched (events_above opening changes older)

same_first : (x y : PendingRevision) (xs ys : List PendingRevision) → x ∷ xs ≡ y ∷ ys → x ≡ y
same_first x y xs ys is = cc

same_rest : (x y : PendingRevision) (xs ys : List PendingRevision) → x ∷ xs ≡ y ∷ ys → xs ≡ ys
same_rest x y xs ys is = cc

-- ---- the first revision that is reported, and the others

-- only one revision is reported
record IsAlone (seen n : ℕ) (t : PendingRevision) (ts : List PendingRevision) : Type 0 where
  above : seen < n
  number : t.number ≡ n
  alone : ts ≡ []

alone_by : (seen n : ℕ) (events : List Event) (b : Bool) (t : PendingRevision) (ts : List PendingRevision) → nat_lt seen n ≡ b → cond b (pending_of_revision n events) [] ≡ t ∷ ts →
    IsAlone seen n t ts
alone_by seen n events b t ts less is = grind (arith, nat_tests, ltb-true, same_first, same_rest)

-- the first revision that is reported is above what was seen, and at most the last one
record IsWithin (seen last : ℕ) (t : PendingRevision) : Type 0 where
  above : seen < t.number
  below : t.number ≤ last

within_by : (seen last n : ℕ) (events : List Event) (earlier : List PendingRevision) (t : PendingRevision) (ts : List PendingRevision) → n ≡ last + 1 →
    ((rest : List PendingRevision) → earlier ≡ t ∷ rest → IsWithin seen last t) → earlier ++ part seen n events ≡ t ∷ ts → IsWithin seen n t
within_by seen last n events [] t ts next goes is = grind (arith, nat_tests, alone_by)
within_by seen last n events (x ∷ rest) t ts next goes is = grind (arith, nat_tests, same_first)

first_within : (opening : Opening) (seen : ℕ) (watched : Watched) (revisions : List (List Change)) (t : PendingRevision) (ts : List PendingRevision) →
    pending_above opening seen watched revisions ≡ t ∷ ts → IsWithin seen (number_of_last opening revisions) t
first_within opening seen watched [] t ts is = absurd (cc)
first_within opening seen watched (changes ∷ older) t ts is =
    let next : number_of_last opening (changes ∷ older) ≡ number_of_last opening older + 1 = omega arith in
    within_by seen (number_of_last opening older) (number_of_last opening (changes ∷ older)) (of_last opening watched changes older)
    (pending_above opening seen watched older) t ts next (λ rest. first_within opening seen watched older t rest) is

nothing_above : (opening : Opening) (seen : ℕ) (watched : Watched) (revisions : List (List Change)) → number_of_last opening revisions ≤ seen →
    pending_above opening seen watched revisions ≡ []
nothing_above opening seen watched [] above = refl
nothing_above opening seen watched (changes ∷ older) above = grind (arith, nat_tests, le-ltb, nothing_above opening seen watched older (omega arith))

rest_by : (seen last n : ℕ) (events : List Event) (earlier later : List PendingRevision) (t : PendingRevision) (ts : List PendingRevision) → n ≡ last + 1 →
    ((rest : List PendingRevision) → earlier ≡ t ∷ rest → IsWithin seen last t × (rest ≡ later)) → (last ≤ t.number → later ≡ []) →
    earlier ++ part seen n events ≡ t ∷ ts → ts ≡ later ++ part t.number n events
rest_by seen last n events [] later t ts next goes none is = grind (arith, nat_tests, alone_by, le-ltb)
rest_by seen last n events (x ∷ rest) later t ts next goes none is = grind (arith, nat_tests, same_first, same_rest, lt-ltb)

-- the others are what is reported above the first
rest_above : (opening : Opening) (seen : ℕ) (watched : Watched) (revisions : List (List Change)) (t : PendingRevision) (ts : List PendingRevision) →
    pending_above opening seen watched revisions ≡ t ∷ ts → ts ≡ pending_above opening t.number watched revisions
rest_above opening seen watched [] t ts is = absurd (cc)
rest_above opening seen watched (changes ∷ older) t ts is =
    let next : number_of_last opening (changes ∷ older) ≡ number_of_last opening older + 1 = omega arith in
    rest_by seen (number_of_last opening older) (number_of_last opening (changes ∷ older)) (of_last opening watched changes older)
    (pending_above opening seen watched older) (pending_above opening t.number watched older) t ts next
    (λ rest some. (first_within opening seen watched older t rest some, rest_above opening seen watched older t rest some))
    (nothing_above opening t.number watched older) is

-- ---- a poll

-- the first `most` revisions, and what is reported above the last of them, are all
record AreSplit (most : ℕ) (opening : Opening) (seen : ℕ) (watched : Watched) (revisions : List (List Change)) (all : List PendingRevision) : Type 0 where
  whole : take most all ++ pending_above opening (last_number seen (take most all)) watched revisions ≡ all
  since : seen ≤ last_number seen (take most all)
  reached : last_number seen (take most all) ≤ max seen (number_of_last opening revisions)

split_by : (most : ℕ) (opening : Opening) (seen : ℕ) (watched : Watched) (revisions : List (List Change)) (all : List PendingRevision) →
    pending_above opening seen watched revisions ≡ all →
    ((next : ℕ) → AreSplit most opening next watched revisions (pending_above opening next watched revisions)) →
    AreSplit (suc most) opening seen watched revisions all
split_by most opening seen watched revisions all is goes = grind (arith, nat_tests, rest_above, first_within)

split : (most : ℕ) (opening : Opening) (seen : ℕ) (watched : Watched) (revisions : List (List Change)) →
    AreSplit most opening seen watched revisions (pending_above opening seen watched revisions)
split zero opening seen watched revisions = record { whole = refl; since = omega arith; reached = omega arith }
split (suc most) opening seen watched revisions =
    split_by most opening seen watched revisions (pending_above opening seen watched revisions) refl (λ next. split most opening next watched revisions)

-- a poll up to a revision gives the first `most` revisions, and leaves the others pending
record IsPolled (most : ℕ) (h : History) (w : Watching) (upto : ℕ) : Type 0 where
  whole : take most (pending h w) ++ pending_above h.opening upto w.watched h.revisions ≡ pending h w
  since : w.seen ≤ upto
  reached : upto ≤ max w.seen (now h)

polled_by : (most : ℕ) (h : History) (w : Watching) (all : Bool) → nat_le (length (pending h w)) most ≡ all →
    IsPolled most h w (cond all (max w.seen (now h)) (last_number w.seen (take most (pending h w))))
polled_by most h w true all = record {
  whole = ap (λ (l : List PendingRevision). take most (pending h w) ++ l)
      (nothing_above h.opening (max w.seen (now h)) w.watched h.revisions (le-max_right w.seen (now h)))
      ∙ append-nil (take most (pending h w)) ∙ take_all most (pending h w) (leb-true (length (pending h w)) most all);
  since = omega arith;
  reached = omega arith;
}
polled_by most h w false all =
    let s : AreSplit most h.opening w.seen w.watched h.revisions (pending h w) = split most h.opening w.seen w.watched h.revisions in
    record { whole = s.whole; since = s.since; reached = s.reached }

-- ---- what a watcher was notified of and what is pending for it

-- What a watcher that began so and stands so was notified of, with what is pending for it, is all that it had to be notified of since.
pub record HasReported (h : History) (reported : List Event) (begun w : Watching) : Type 0 where
  pub same : w.watched ≡ begun.watched
  pub since : begun.seen ≤ w.seen
  pub reached : w.seen ≤ max begun.seen (now h)
  pub all : reported ++ pending_events (pending h w) ≡ pending_events (pending h begun)

pub begun_reports : (h : History) (w : Watching) → HasReported h [] w w
begun_reports h w = record { same = refl; since = omega arith; reached = omega arith; all = refl }

events_joined : (ts us : List PendingRevision) → pending_events (ts ++ us) ≡ pending_events ts ++ pending_events us
events_joined ts us = flat_map-append (λ (t : PendingRevision). t.events) ts us

-- a poll reports what it gives
pub polled_reports : (most : ℕ) (h : History) (reported : List Event) (begun w : Watching) → HasReported h reported begun w →
    HasReported h (reported ++ (batch_of most h w).events) begun (after_poll most h w)
polled_reports most h reported begun w t =
    let upto : ℕ = (batch_of most h w).upto in
    let given : List PendingRevision = take most (pending h w) in
    let left : List PendingRevision = pending_above h.opening upto w.watched h.revisions in
    let p : IsPolled most h w upto = polled_by most h w (nat_le (length (pending h w)) most) refl in
    let first : begun.seen ≤ w.seen = t.since in
    let last : w.seen ≤ max begun.seen (now h) = t.reached in
    let since : w.seen ≤ upto = p.since in
    let reached : upto ≤ max w.seen (now h) = p.reached in
    record {
      same = t.same;
      since = omega arith;
      reached = omega arith;
      all = append_assoc reported (pending_events given) (pending_events left)
          ∙ ap (λ (es : List Event). reported ++ es) (sym (events_joined given left) ∙ ap pending_events p.whole) ∙ t.all;
    }

-- a new revision is pending alike
grown_reports : (h : History) (changes : List Change) (reported : List Event) (begun w : Watching) → HasReported h reported begun w →
    HasReported (add_revision h changes) reported begun w
grown_reports h changes reported begun w t =
    let n : ℕ = number_of_last h.opening (changes ∷ h.revisions) in
    let more : Watching → List PendingRevision = λ x. part x.seen n (of_last h.opening x.watched changes h.revisions) in
    let since : begun.seen ≤ w.seen = t.since in
    let reached : w.seen ≤ max begun.seen (now h) = t.reached in
    let both : nat_lt w.seen n ≡ nat_lt begun.seen n = elim (cases_lt begun.seen n) [
      | inl less ↦ lt-ltb w.seen n (omega arith) ∙ sym (lt-ltb begun.seen n less)
      | inr above ↦ le-ltb w.seen n (omega arith) ∙ sym (le-ltb begun.seen n above)
    ] in
    let alike : more w ≡ more begun =
    ap (λ b. cond b (pending_of_revision n (of_last h.opening w.watched changes h.revisions)) []) both
    ∙ ap (λ (k : Watched). part begun.seen n (of_last h.opening k changes h.revisions)) t.same in
    record {
      same = t.same;
      since = since;
      reached = omega arith;
      all = ap (λ (es : List Event). reported ++ es)
          (events_joined (pending h w) (more w) ∙ ap (λ (ts : List PendingRevision). pending_events (pending h w) ++ pending_events ts) alike)
          ∙ sym (append_assoc reported (pending_events (pending h w)) (pending_events (more begun)))
          ∙ ap (λ (es : List Event). es ++ pending_events (more begun)) t.all ∙ sym (events_joined (pending h begun) (more begun));
    }

-- what was reported of one history goes on in another
abbrev pub Carries : History → History → Type 0
Carries before after = (reported : List Event) (begun w : Watching) → HasReported before reported begun w → HasReported after reported begun w

pub carries_changes : (h : History) (changes : List Change) → Carries h (with_changes h changes)
carries_changes h [] reported begun w t = t
carries_changes h (c ∷ cs) reported begun w t = grown_reports h (c ∷ cs) reported begun w t

-- ---- nothing that is pending is below the floor

-- the first of these revisions is not below the floor
abbrev pub IsFrom : ℕ → List PendingRevision → Type 0
IsFrom floor ts = IfSome (number_of_first ts) (λ n. floor ≤ n)

-- none of them is
abbrev AreFrom : ℕ → List PendingRevision → Type 0
AreFrom floor [] = Unit {0}
AreFrom floor (t ∷ ts) = (floor ≤ t.number) × AreFrom floor ts

first_from : (floor : ℕ) (ts : List PendingRevision) → AreFrom floor ts → IsFrom floor ts
first_from floor ts are = grind (arith, nat_tests)

both_from : (floor : ℕ) (ts us : List PendingRevision) → AreFrom floor ts → AreFrom floor us → AreFrom floor (ts ++ us)
both_from floor [] us are others = others
both_from floor (t ∷ ts) us are others = (are.0, both_from floor ts us are.1 others)

rest_from : (floor : ℕ) (ts us : List PendingRevision) → AreFrom floor (ts ++ us) → AreFrom floor us
rest_from floor [] us are = are
rest_from floor (t ∷ ts) us are = rest_from floor ts us are.1

part_from : (floor n : ℕ) (events : List Event) (above : Bool) → floor ≤ n → AreFrom floor (cond above (pending_of_revision n events) [])
part_from floor n events above from = grind (arith, nat_tests)

all_by : (floor seen last n : ℕ) (events : List Event) (earlier : List PendingRevision) → n ≡ last + 1 →
    ((t : PendingRevision) (ts : List PendingRevision) → earlier ≡ t ∷ ts → IsWithin seen last t) → (IsFrom floor earlier → AreFrom floor earlier) →
    IsFrom floor (earlier ++ part seen n events) → AreFrom floor (earlier ++ part seen n events)
all_by floor seen last n events earlier next within goes is = grind (arith, nat_tests, both_from, part_from)

-- they are reported in their order, so where the first is not below the floor none is
all_from : (floor : ℕ) (opening : Opening) (seen : ℕ) (watched : Watched) (revisions : List (List Change)) →
    IsFrom floor (pending_above opening seen watched revisions) → AreFrom floor (pending_above opening seen watched revisions)
all_from floor opening seen watched [] is = tt
all_from floor opening seen watched (changes ∷ older) is =
    let next : number_of_last opening (changes ∷ older) ≡ number_of_last opening older + 1 = omega arith in
    all_by floor seen (number_of_last opening older) (number_of_last opening (changes ∷ older)) (of_last opening watched changes older)
    (pending_above opening seen watched older) next (first_within opening seen watched older) (all_from floor opening seen watched older) is

-- so it stays with a poll
pub polled_from : (most floor : ℕ) (h : History) (w : Watching) → IsFrom floor (pending h w) → IsFrom floor (pending h (after_poll most h w))
polled_from most floor h w is =
    let upto : ℕ = (batch_of most h w).upto in
    let given : List PendingRevision = take most (pending h w) in
    let left : List PendingRevision = pending_above h.opening upto w.watched h.revisions in
    let p : IsPolled most h w upto = polled_by most h w (nat_le (length (pending h w)) most) refl in
    let all : AreFrom floor (pending h w) = all_from floor h.opening w.seen w.watched h.revisions is in
    first_from floor left (rest_from floor given left (subst (AreFrom floor) (sym p.whole) all))

-- and with a change
pub changes_from : (floor : ℕ) (h : History) (changes : List Change) (w : Watching) → floor ≤ now h → IsFrom floor (pending h w) →
    IsFrom floor (pending (with_changes h changes) w)
changes_from floor h changes w reached is = grind (arith, nat_tests, part_from, first_from)

start_from : (floor from top : ℕ) (next : Bool) → nat_eq from 0 ≡ next → floor ≤ top → (nat_lt 0 from && nat_lt from floor) ≡ false →
    floor ≤ cond next top (from - 1) + 1
start_from floor from top next is reached kept = grind (arith, nat_tests, lt-ltb, ltb-false)

-- a watcher that is not lost from its start has nothing below the floor pending
pub begun_from : (floor : ℕ) (h : History) (watched : Watched) (from : ℕ) → floor ≤ now h → (watching_from h floor watched from).lost ≡ false →
    IsFrom floor (pending h (watching_from h floor watched from))
begun_from floor h watched from reached kept = grind (arith, nat_tests, start_from, first_within)

-- ---- what is below the floor stays so

-- with a change
pub lost_stays : (floor : ℕ) (h : History) (changes : List Change) (w : Watching) → is_lost floor (first_pending h w) ≡ true →
    is_lost floor (first_pending (with_changes h changes) w) ≡ true
lost_stays floor h changes w is = grind (arith, nat_tests)

-- and with a higher floor
pub lost_under : (low high : ℕ) (first : Option ℕ) → low ≤ high → is_lost low first ≡ true → is_lost high first ≡ true
lost_under low high first up is = grind (arith, nat_tests, ltb-true, lt-ltb)
