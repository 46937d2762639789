-- What a search through a scenario's places finds is what the schedules of the scenario come to.
use Rattle.std.proofs.Common.{◌≡◌, ◌∙◌, ℕ, zero, suc, ◌+◌, ◌<◌, ◌≤◌, Bool, ◌||◌, List, [], ◌∷◌, ◌++◌, length, drop, get_or, Option, Some, option_map, flat_map}
use Rattle.std.proofs.Common.{refl, sym, ap, subst, arith}
use Rattle.std.proofs.lemmas.List.{at_drop_more, at_drop_all, get_or_default}
use Rattle.std.specs.List.{list_any}
use Rattle.std.specs.Option.{option_or}
use Rattle.stm_program.specs.Syntax.{ProgramTree}
use Rattle.stm_steps.specs.declared.run.End.{End}
use Rattle.stm_events.specs.declared.event.WorldEvent.{WorldEvent}
use Rattle.stm_world.specs.World.{World}
use Rattle.stm_schedules.specs.declared.moves.Move.{Move}
use Rattle.stm_schedules.specs.declared.moves.Move.TheVariants.{Other}
use Rattle.stm_schedules.specs.Places.{Place, moves, moved}
use Rattle.stm_schedules.specs.Schedules.{place_after}
use Rattle.stm_schedules.specs.Keeping.{end_alone, keeps, first_of, bad_at, first_bad, goes_on}
use Rattle.stm_schedules.specs.Outcomes.{Ends, ends_moved, shown, outcome_if_whole, outcomes_at}
use Rattle.stm_schedules.proofs.BadSchedules.{first_bad_is_first}
use Rattle.stm_schedules.proofs.Lengths.{longest_is_all}
use Rattle.stm_visited.specs.Search.{first_of as first_found, bad_at as found_at, first_bad as first_found_bad, goes_on as found_on, if_whole, shown_at}
use Rattle.stm_visited.specs.Search.{count_at as counted_at, count_up_to as counted_up_to}
use Rattle.stm_visited.proofs.Founds.{total_same}
use Rattle.stm_visited.specs.declared.visited.Visited.{Visited}
use Rattle.stm_visited.specs.declared.visited.Visited.TheVariants.{Always as AlwaysKept, Broken as BrokenBy, Open as OpenAt}
use Rattle.stm_visited.specs.Answers.{IsVisited, OpenIsFar as VisitedIsFar}
use Rattle.stm_explore.specs.declared.places.WorldPlace.{WorldPlace}
use Rattle.stm_explore.specs.declared.places.ReportedPlace.{ReportedPlace}
use Rattle.stm_explore.specs.declared.exploring.Explored.TheVariants.{Always, Broken, Open}
use Rattle.stm_explore.specs.Explored.{IsExplored, count_at, count_up_to, OpenIsFar}
use Rattle.stm_explore.specs.Spots.{taken_next, taken_after, place_of, after, reported_after, rule_steps, outcome_steps}
use Rattle.stm_explore.specs.AlikeSpots.{after_is_moved}
use Rattle.stm_explore.proofs.ExploreLemmas.{always, broken, still_open}

next_there : (k t : ℕ) (xs : List WorldEvent) → t < length xs → k + 1 ≡ taken_next (drop t xs) k
next_there k t [] within = absurd (omega arith)
next_there k zero (x ∷ xs) within = omega arith
next_there k (suc t) (x ∷ xs) within = next_there k t xs (omega arith)

pub rest_there : (m : Move) (t : ℕ) (xs : List WorldEvent) → m ≡ Other → t < length xs → t + 1 ≡ taken_after m (drop t xs) t
rest_there m t xs is within = next_there t t xs within ∙ ap (λ (v : Move). taken_after v (drop t xs) t) (sym is)

both_first : {A B : Type 0} (f g : A → Option B) (xs : List A) → ((x : A) → f x ≡ g x) → first_found f xs ≡ first_of g xs
both_first f g [] same = refl
both_first {A} {B} f g (x ∷ xs) same =
    ap (λ (o : Option B). option_or o (first_found f xs)) (same x) ∙ ap (option_or (g x)) (both_first f g xs same)

both_any : {A : Type 0} (f g : A → Bool) (xs : List A) → ((x : A) → f x ≡ g x) → list_any f xs ≡ list_any g xs
both_any f g [] same = refl
both_any f g (x ∷ xs) same = ap (λ b. b || list_any f xs) (same x) ∙ ap (λ b. g x || b) (both_any f g xs same)

same_bad : (rule : ProgramTree) (others : List WorldEvent) (n : ℕ) (p : WorldPlace) → found_at (rule_steps rule others) n p ≡ bad_at (keeps rule) n (place_of others p)
same_bad rule others zero p = refl
same_bad rule others (suc n) p =
    both_first (λ m. option_map (λ (ms : List Move). m ∷ ms) (found_at (rule_steps rule others) n (after others m p)))
    (λ m. option_map (λ (ms : List Move). m ∷ ms) (bad_at (keeps rule) n (moved m (place_of others p)))) (moves (place_of others p))
    (λ m. ap (option_map (λ (ms : List Move). m ∷ ms))
    (same_bad rule others n (after others m p) ∙ ap (λ (q : Place). bad_at (keeps rule) n q) (after_is_moved others m p)))

same_first : (rule : ProgramTree) (others : List WorldEvent) (n : ℕ) (p : WorldPlace) → first_found_bad (rule_steps rule others) n p ≡ first_bad (keeps rule) n (place_of others p)
same_first rule others zero p = same_bad rule others zero p
same_first rule others (suc n) p =
    ap (λ (o : Option (List Move)). option_or o (found_at (rule_steps rule others) (suc n) p)) (same_first rule others n p)
    ∙ ap (option_or (first_bad (keeps rule) n (place_of others p))) (same_bad rule others (suc n) p)

same_on : (rule : ProgramTree) (others : List WorldEvent) (n : ℕ) (p : WorldPlace) → found_on (rule_steps rule others) n p ≡ goes_on n (place_of others p)
same_on rule others zero p = refl
same_on rule others (suc n) p =
    both_any (λ m. found_on (rule_steps rule others) n (after others m p)) (λ m. goes_on n (moved m (place_of others p))) (moves (place_of others p))
    (λ m. same_on rule others n (after others m p) ∙ ap (λ (q : Place). goes_on n q) (after_is_moved others m p))

drop_none : (xs : List WorldEvent) → drop 0 xs ≡ xs
drop_none [] = refl
drop_none (x ∷ xs) = refl

-- nothing was taken where a search starts
pub at_start : (others : List WorldEvent) (w : World) → place_of others (record { world = w; taken = 0 }) ≡ record { world = w; others = others }
at_start others w = ap (λ es. let q : Place = record { world = w; others = es } in q) (drop_none others)

-- as many schedules
same_count : (rule : ProgramTree) (others : List WorldEvent) (n : ℕ) (p : WorldPlace) → counted_at (rule_steps rule others) n p ≡ count_at n (place_of others p)
same_count rule others zero p = refl
same_count rule others (suc n) p =
    total_same (λ m. counted_at (rule_steps rule others) n (after others m p)) (λ m. count_at n (moved m (place_of others p))) (moves (place_of others p))
    (λ m. same_count rule others n (after others m p) ∙ ap (λ (q : Place). count_at n q) (after_is_moved others m p))

pub count_reported : (others : List WorldEvent) (n : ℕ) (p : ReportedPlace) → counted_at (outcome_steps others) n p ≡ count_at n (place_of others p.at)
count_reported others zero p = refl
count_reported others (suc n) p =
    total_same (λ m. counted_at (outcome_steps others) n (reported_after others m p)) (λ m. count_at n (moved m (place_of others p.at))) (moves (place_of others p.at))
    (λ m. count_reported others n (reported_after others m p) ∙ ap (λ (q : Place). count_at n q) (after_is_moved others m p.at))

-- ---- a rule

from_start : (rule : ProgramTree) (others : List WorldEvent) (n : ℕ) (w : World) →
    first_found_bad (rule_steps rule others) n (record { world = w; taken = 0 }) ≡ first_bad (keeps rule) n (record { world = w; others = others })
from_start rule others n w =
    same_first rule others n (record { world = w; taken = 0 }) ∙ ap (λ (q : Place). first_bad (keeps rule) n q) (at_start others w)

on_from_start : (rule : ProgramTree) (others : List WorldEvent) (n : ℕ) (w : World) →
    found_on (rule_steps rule others) n (record { world = w; taken = 0 }) ≡ goes_on n (record { world = w; others = others })
on_from_start rule others n w =
    same_on rule others n (record { world = w; taken = 0 }) ∙ ap (λ (q : Place). goes_on n q) (at_start others w)

pub always_kept : (rule : ProgramTree) (others : List WorldEvent) (w : World) (longest : ℕ) →
    IsVisited (rule_steps rule others) (record { world = w; taken = 0 }) (let it : Visited Move = AlwaysKept longest in it) →
    IsExplored rule (record { world = w; others = others }) (Always longest)
always_kept rule others w longest v =
    always first_bad_is_first longest_is_all rule longest (record { world = w; others = others }) (sym (from_start rule others longest w) ∙ v.0)
    (sym (on_from_start rule others longest w) ∙ v.1) (sym (on_from_start rule others (suc longest) w) ∙ v.2)

pub broken_by : (rule : ProgramTree) (others : List WorldEvent) (w : World) (schedule : List Move) (end : End) →
    IsVisited (rule_steps rule others) (record { world = w; taken = 0 }) (BrokenBy schedule) →
    end_alone rule (place_after schedule (record { world = w; others = others })).world ≡ Some end →
    IsExplored rule (record { world = w; others = others }) (Broken schedule end)
broken_by rule others w schedule end v ends =
    broken first_bad_is_first rule (length schedule) (record { world = w; others = others }) schedule end (sym (from_start rule others (length schedule) w) ∙ v) ends

pub open_at : (rule : ProgramTree) (others : List WorldEvent) (w : World) (kept : ℕ) →
    IsVisited (rule_steps rule others) (record { world = w; taken = 0 }) (let it : Visited Move = OpenAt kept in it) →
    IsExplored rule (record { world = w; others = others }) (Open kept)
open_at rule others w kept v =
    still_open first_bad_is_first rule kept (record { world = w; others = others }) (sym (from_start rule others kept w) ∙ v.0)
    (sym (on_from_start rule others (suc kept) w) ∙ v.1)

far_up_to : (rule : ProgramTree) (others : List WorldEvent) (n : ℕ) (w : World) →
    counted_up_to (rule_steps rule others) n (record { world = w; taken = 0 }) ≡ count_up_to n (record { world = w; others = others })
far_up_to rule others zero w = refl
far_up_to rule others (suc n) w =
    ap (λ k. k + counted_at (rule_steps rule others) (suc n) (record { world = w; taken = 0 })) (far_up_to rule others n w)
    ∙ ap (λ k. count_up_to n (record { world = w; others = others }) + k)
    (same_count rule others (suc n) (record { world = w; taken = 0 }) ∙ ap (λ (q : Place). count_at (suc n) q) (at_start others w))

-- as far as the search is
pub as_far : (rule : ProgramTree) (others : List WorldEvent) (w : World) (made kept : ℕ) →
    VisitedIsFar (rule_steps rule others) (record { world = w; taken = 0 }) made (let it : Visited Move = OpenAt kept in it) →
    OpenIsFar (record { world = w; others = others }) made (Open kept)
as_far rule others w made kept far = subst (λ n. made ≤ n) (far_up_to rule others (suc kept) w) far

-- one move more of a schedule that is made again
made_again : (others : List WorldEvent) (ms : List Move) (i : ℕ) (m : Move) (p q : WorldPlace) (end : Place) → i < length ms → m ≡ get_or ms i m → q ≡ after others m p →
    place_after (drop i ms) (place_of others p) ≡ end → place_after (drop (i + 1) ms) (place_of others q) ≡ end
made_again others ms i m p q end within at is so_far =
    ap (λ (r : WorldPlace). place_after (drop (i + 1) ms) (place_of others r)) is
    ∙ ap (λ (r : Place). place_after (drop (i + 1) ms) r) (after_is_moved others m p)
    ∙ sym (at_drop_more (λ (l : List Move). place_after l (place_of others p)) ms i m within
    ∙ ap (λ (x : Move). place_after (x ∷ drop (i + 1) ms) (place_of others p)) (sym at))
    ∙ so_far

-- the same by what one turn of the loop has
pub made_next : (others : List WorldEvent) (ms : List Move) (i : ℕ) (d : Move) (p q : WorldPlace) (end : Place) → i < length ms → q ≡ after others (get_or ms i d) p →
    place_after (drop i ms) (place_of others p) ≡ end → place_after (drop (i + 1) ms) (place_of others q) ≡ end
made_next others ms i d p q end within is so_far =
    made_again others ms i (get_or ms i d) p q end within (get_or_default ms i d (get_or ms i d) within) is so_far

pub drop_first : (ms : List Move) → drop 0 ms ≡ ms
drop_first [] = refl
drop_first (m ∷ ms) = refl

-- none of them is made yet
pub none_made : (others : List WorldEvent) (w v : World) (ms : List Move) → w ≡ v →
    place_after (drop 0 ms) (place_of others (record { world = w; taken = 0 })) ≡ place_after ms (record { world = v; others = others })
none_made others w v ms same =
    ap (λ (l : List Move). place_after l (place_of others (record { world = w; taken = 0 }))) (drop_first ms)
    ∙ ap (place_after ms) (ap (λ (x : World). place_of others (record { world = x; taken = 0 })) same ∙ at_start others v)

-- all of them are made
pub all_made : (others : List WorldEvent) (ms : List Move) (i : ℕ) (p : WorldPlace) (end : Place) → length ms ≤ i → place_after (drop i ms) (place_of others p) ≡ end →
    p.world ≡ end.world
all_made others ms i p end long so_far =
    ap (λ (q : Place). q.world) (sym (at_drop_all (λ (l : List Move). place_after l (place_of others p)) ms i long) ∙ so_far)

-- ---- outcomes

pub whole_or_not : (ms : List Move) (w : World) (ends : Ends) → if_whole ms (shown w ends) ≡ outcome_if_whole ms w ends
whole_or_not [] w ends = refl
whole_or_not (m ∷ ms) w ends = refl

both_flat : {A B : Type 0} (f g : A → List B) (xs : List A) → ((x : A) → f x ≡ g x) → flat_map f xs ≡ flat_map g xs
both_flat f g [] same = refl
both_flat f g (x ∷ xs) same = ap (λ ys. ys ++ flat_map f xs) (same x) ∙ ap (λ ys. g x ++ ys) (both_flat f g xs same)

pub same_shown : (others : List WorldEvent) (n : ℕ) (p : ReportedPlace) → shown_at (outcome_steps others) n p ≡ outcomes_at n (place_of others p.at) p.ends
same_shown others zero p = whole_or_not (moves (place_of others p.at)) p.at.world p.ends
same_shown others (suc n) p =
    both_flat (λ m. shown_at (outcome_steps others) n (reported_after others m p))
    (λ m. outcomes_at n (moved m (place_of others p.at)) (ends_moved m (place_of others p.at) p.ends)) (moves (place_of others p.at))
    (λ m. same_shown others n (reported_after others m p)
    ∙ ap (λ (q : Place). outcomes_at n q (ends_moved m (place_of others p.at) p.ends)) (after_is_moved others m p.at))

pub on_reported : (others : List WorldEvent) (n : ℕ) (p : ReportedPlace) → found_on (outcome_steps others) n p ≡ goes_on n (place_of others p.at)
on_reported others zero p = refl
on_reported others (suc n) p =
    both_any (λ m. found_on (outcome_steps others) n (reported_after others m p)) (λ m. goes_on n (moved m (place_of others p.at))) (moves (place_of others p.at))
    (λ m. on_reported others n (reported_after others m p) ∙ ap (λ (q : Place). goes_on n q) (after_is_moved others m p.at))
