-- Stores that are alike.
use Rattle.std.proofs.Common.{◌≡◌, ◌∙◌, ℕ, ◌-◌, Bool, false, cond, [], map, sym, ap, subst, arith}
use Rattle.std.specs.Prelude.{nat_lt}
use Rattle.std.proofs.lemmas.Bool.Decides.{nat_tests}
use Rattle.stm_history.specs.Opening.{Opening}
use Rattle.stm_history.specs.History.{History}
use Rattle.stm_history.specs.Cut.{cut, opening_of_cut, revisions_above}
use Rattle.stm_txn.specs.Standing.{Standing, with_watchers, kept}
use Rattle.stm_entries.specs.Replayed.{Replayed, opened_with, without_moment}
use Rattle.stm_entries.specs.Replay.{replay}
use Rattle.stm_world.specs.World.{World}
use Rattle.stm_alike.specs.Seen.{seen_slot, AreAlike}

parts_alike : (s t : Standing) → s.history ≡ t.history → s.live ≡ t.live → s.floor ≡ t.floor → s.limit ≡ t.limit → s.moment ≡ t.moment →
    with_watchers s [] ≡ with_watchers t []
parts_alike s t history live floor limit moment =
    λ i. record { history = history i; floor = floor i; limit = limit i; live = live i; moment = moment i; watchers = [] }

-- the history of a world is the one to which its entries lead, and so are its live leases
pub record LedTo (w : World) : Type 0 where
  pub replays : replay w.entries (opened_with w.standing.history.opening) ≡ without_moment w.standing

-- the same floor, limit and moment
pub record SameTerms (s t : Standing) : Type 0 where
  pub floor : s.floor ≡ t.floor
  pub limit : s.limit ≡ t.limit
  pub moment : s.moment ≡ t.moment

-- the same of what is kept of two stores
pub same_terms : (s t a b : Standing) → a ≡ kept s → b ≡ kept t → a.floor ≡ b.floor → a.limit ≡ b.limit → a.moment ≡ b.moment → SameTerms s t
same_terms s t a b one two floor limit moment = record {
  floor = sym (ap (λ (x : Standing). x.floor) one) ∙ floor ∙ ap (λ (x : Standing). x.floor) two;
  limit = sym (ap (λ (x : Standing). x.limit) one) ∙ limit ∙ ap (λ (x : Standing). x.limit) two;
  moment = sym (ap (λ (x : Standing). x.moment) one) ∙ moment ∙ ap (λ (x : Standing). x.moment) two;
}

no_lower : (n : ℕ) → nat_lt n 0 ≡ false
no_lower n = grind (arith, nat_tests)

-- a store that was never compacted is the whole one
pub never_compacted : (s : Standing) → s.floor ≡ 0 → (kept s).history ≡ s.history
never_compacted s none =
    ap (λ n. cut (n - 1) s.history) none
    ∙ ap (λ (b : Bool). cond b (record { opening = opening_of_cut 0 s.history; revisions = revisions_above s.history.opening 0 s.history.revisions }) s.history)
    (no_lower s.history.opening.number)

-- so what is kept of it is all of it
all_kept : (s a : Standing) (h : History) → a ≡ kept s → h ≡ a.history → a.floor ≡ 0 → h ≡ s.history
all_kept s a h one first none = first ∙ ap (λ (x : Standing). x.history) one ∙ never_compacted s (sym (ap (λ (x : Standing). x.floor) one) ∙ none)

pub whole_compared : (s t a b : Standing) (h g : History) → a ≡ kept s → b ≡ kept t → h ≡ a.history → g ≡ b.history → a.floor ≡ 0 → b.floor ≡ 0 →
    (h.opening ≡ g.opening → h.revisions ≡ g.revisions) → s.history.opening ≡ t.history.opening → s.history.revisions ≡ t.history.revisions
whole_compared s t a b h g one two first second none nothing compared =
    subst (λ (x : History). x.opening ≡ t.history.opening → x.revisions ≡ t.history.revisions) (all_kept s a h one first none)
    (subst (λ (y : History). h.opening ≡ y.opening → h.revisions ≡ y.revisions) (all_kept t b g two second nothing) compared)

pub alike_by_revisions : (v w : World) → LedTo v → LedTo w → v.standing.history.opening ≡ w.standing.history.opening →
    SameTerms v.standing w.standing → (v.standing.history.opening ≡ w.standing.history.opening → v.standing.history.revisions ≡ w.standing.history.revisions) →
    ((r : Replayed) → (replay v.entries r).live ≡ (replay w.entries r).live) → with_watchers v.standing [] ≡ with_watchers w.standing []
alike_by_revisions v w first second opened terms revisions leases =
    let later : v.standing.history.revisions ≡ w.standing.history.revisions = revisions opened in
    let histories : v.standing.history ≡ w.standing.history = λ i. record { opening = opened i; revisions = later i } in
    let lives : v.standing.live ≡ w.standing.live =
    sym (ap (λ (r : Replayed). r.live) first.replays) ∙ leases (opened_with v.standing.history.opening) ∙ ap (λ (o : Opening). (replay w.entries (opened_with o)).live) opened
    ∙ ap (λ (r : Replayed). r.live) second.replays in
    parts_alike v.standing w.standing histories lives terms.floor terms.limit terms.moment

pub alike_by_entries : (v w : World) → LedTo v → LedTo w → v.standing.history.opening ≡ w.standing.history.opening →
    SameTerms v.standing w.standing → v.entries ≡ w.entries → with_watchers v.standing [] ≡ with_watchers w.standing []
alike_by_entries v w first second opened terms entries =
    let led : without_moment v.standing ≡ without_moment w.standing =
    sym first.replays ∙ ap (λ es. replay es (opened_with v.standing.history.opening)) entries
    ∙ ap (λ (o : Opening). replay w.entries (opened_with o)) opened ∙ second.replays in
    parts_alike v.standing w.standing (ap (λ (r : Replayed). r.history) led) (ap (λ (r : Replayed). r.live) led) terms.floor terms.limit terms.moment

-- alike runners over alike stores
pub worlds_alike : (v w : World) → map seen_slot v.runners ≡ map seen_slot w.runners → with_watchers v.standing [] ≡ with_watchers w.standing [] → AreAlike v w
worlds_alike v w runners stores = λ i. record { standing = stores i; runners = runners i; entries = [] }
