-- What the moves that are left come to, while one after another is made.
use Rattle.std.proofs.Common.{◌≡◌, ◌∙◌, ℕ, suc, ◌+◌, ◌<◌, ◌≤◌, List, length, drop, get_or, sym, ap, arith}
use Rattle.std.proofs.Math.Seq.{drop-cons}
use Rattle.std.proofs.lemmas.List.{at_drop_all}
use Rattle.stm_events.specs.declared.event.WorldEvent.{WorldEvent}
use Rattle.stm_world.specs.World.{World}
use Rattle.stm_schedules.specs.declared.moves.Move.{Move}
use Rattle.stm_schedules.specs.declared.outcome.Outcome.{Outcome}
use Rattle.stm_schedules.specs.Outcomes.{Ends, ends_moved, outcome_after, shown}
use Rattle.stm_schedules.specs.Places.{Place}
use Rattle.stm_schedules.proofs.Gathered.{goes_along}
use Rattle.stm_explore.specs.declared.places.ReportedPlace.{ReportedPlace}
use Rattle.stm_explore.specs.AlikeSpots.{after_is_moved}
use Rattle.stm_explore.specs.Spots.{place_of, reported_after}
use Rattle.stm_explore.proofs.Walking.{at_start, drop_first}

-- what moves come to from a place
abbrev left_to : List WorldEvent → List Move → ReportedPlace → Outcome
left_to others ms p = outcome_after ms (place_of others p.at) p.ends

pub all_left : (others : List WorldEvent) (ms : List Move) (p : ReportedPlace) → left_to others (drop 0 ms) p ≡ left_to others ms p
all_left others ms p = ap (λ (l : List Move). left_to others l p) (drop_first ms)

pub next_left : (others : List WorldEvent) (ms : List Move) (i : ℕ) (d : Move) (p q : ReportedPlace) (it : Outcome) → i < length ms →
    q ≡ reported_after others (get_or ms i d) p → left_to others (drop i ms) p ≡ it → left_to others (drop (i + 1) ms) q ≡ it
next_left others ms i d p q it within is so_far =
    let m : Move = get_or ms i d in
    let rest : List Move = drop (suc i) ms in
    let step : i + 1 ≡ suc i = omega arith in
    ap (λ (n : ℕ). left_to others (drop n ms) q) step ∙ ap (left_to others rest) is
    ∙ ap (λ (x : Place). outcome_after rest x (ends_moved m (place_of others p.at) p.ends)) (after_is_moved others m p.at)
    ∙ sym (goes_along m rest (place_of others p.at) p.ends) ∙ ap (λ (l : List Move). left_to others l p) (sym (drop-cons ms i d within)) ∙ so_far

pub none_left : (others : List WorldEvent) (ms : List Move) (i : ℕ) (p : ReportedPlace) (it : Outcome) → length ms ≤ i → left_to others (drop i ms) p ≡ it →
    shown p.at.world p.ends ≡ it
none_left others ms i p it long so_far = sym (at_drop_all (λ (l : List Move). left_to others l p) ms i long) ∙ so_far

pub begun_there : (others : List WorldEvent) (ms : List Move) (w v : World) (known ends : Ends) → w ≡ v → known ≡ ends →
    outcome_after ms (place_of others (record { world = w; taken = 0 })) known ≡ outcome_after ms (record { world = v; others = others }) ends
begun_there others ms w v known ends same is =
    ap (λ (x : World). outcome_after ms (place_of others (record { world = x; taken = 0 })) known) same
    ∙ ap (λ (p : Place). outcome_after ms p known) (at_start others v) ∙ ap (outcome_after ms (record { world = v; others = others })) is
