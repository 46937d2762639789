-- Schedules from places that agree.
use Rattle.std.proofs.Common.{◌≡◌, ℕ, suc, zero, Bool, true, List, [], ◌∷◌, Some, refl, sym, ◌∙◌, ap, subst, arith}
use Rattle.std.specs.List.{list_all, list_any}
use Rattle.std.proofs.lemmas.Bool.{and_parts, Decides.nat_tests}
use Rattle.stm_program.specs.Syntax.{ProgramTree}
use Rattle.stm_compile.specs.Answers.{seen_of, state_now}
use Rattle.stm_events.specs.declared.event.WorldEvent.{WorldEvent}
use Rattle.stm_world.specs.World.{World, world_after, replies_to}
use Rattle.stm_schedules.specs.declared.moves.Move.{Move}
use Rattle.stm_schedules.specs.declared.moves.Move.TheVariants.{Step as StepOf, Other}
use Rattle.stm_schedules.specs.Places.{Place, moves, moved, event_of, left_after}
use Rattle.stm_schedules.specs.Schedules.{place_after, IsSchedule, IsLongest}
use Rattle.stm_schedules.specs.Keeping.{end_of, is_done, end_alone, keeps, IsFirstBad, goes_on}
use Rattle.stm_schedules.specs.Outcomes.{Ends, after_reported, after_replies, ends_moved, ends_after}
use Rattle.stm_schedules.proofs.Gathered.{ends_go_along}
use Rattle.stm_narrow.specs.Touching.{KeepsTo}
use Rattle.stm_narrow.specs.Foreign.{event_keeps_to}
use Rattle.stm_narrow.specs.Agree.{Agree}
use Rattle.stm_narrow.specs.AgreeingPlaces.{PlacesAgree, AgreeingPlacesAreSame}
use Rattle.stm_narrow.proofs.Histories.{same_now}
use Rattle.stm_narrow.proofs.Others.{foreign_same, nothing_told}
use Rattle.stm_narrow.proofs.SameRun.{same_runs}
use Rattle.stm_narrow.proofs.Stepping.{step_same, turned}

module _ (touched : List ℕ → Bool) (leased : ℕ → Bool) (since : ℕ) where
  abbrev Alike : Place → Place → Type 0
  Alike = PlacesAgree touched leased since

  abbrev AllKeepTo : List WorldEvent → Type 0
  AllKeepTo events = list_all (event_keeps_to touched leased) events ≡ true

  also_within : (p q : Place) → Alike p q → AllKeepTo q.others
  also_within p q same = subst AllKeepTo same.others same.within

  pub turned_places : (p q : Place) → Alike p q → Alike q p
  turned_places p q same = grind (arith, nat_tests, turned, also_within)

  -- ---- the next event of the others

  next_agree : (others : List WorldEvent) (v w : World) → AllKeepTo others → Agree touched leased since v w →
      Agree touched leased since (world_after (event_of Other others) v) (world_after (event_of Other others) w)
  next_agree [] v w all agree = agree
  next_agree (e ∷ es) v w all agree = foreign_same touched leased since e v w (and_parts (event_keeps_to touched leased e) (list_all (event_keeps_to touched leased) es) all).0 agree

  left_within : (others : List WorldEvent) → AllKeepTo others → AllKeepTo (left_after Other others)
  left_within others all = grind (arith, nat_tests, and_parts)

  -- it neither begins a runner nor ends one
  next_told : (others : List WorldEvent) (w : World) (known : Ends) → AllKeepTo others → after_replies (replies_to (event_of Other others) w) known ≡ known
  next_told others w known all = grind (arith, nat_tests, nothing_told, and_parts)

  -- ---- moves

  moves_same : (p q : Place) → Alike p q → moves p ≡ moves q
  moves_same p q same = grind (arith, nat_tests)

  pub moved_same : (m : Move) (p q : Place) → Alike p q → Alike (moved m p) (moved m q)
  moved_same (StepOf id) p q same = record {
    worlds = (step_same touched leased since id p.world q.world same.worlds).next;
    others = same.others;
    within = same.within;
  }
  moved_same Other p q same = record {
    worlds =
        subst (λ (others : List WorldEvent). Agree touched leased since (world_after (event_of Other p.others) p.world) (world_after (event_of Other others) q.world))
        same.others (next_agree p.others p.world q.world same.within same.worlds);
    others = ap (left_after Other) same.others;
    within = left_within p.others same.within;
  }

  known_same : (m : Move) (p q : Place) (known : Ends) → Alike p q → ends_moved m p known ≡ ends_moved m q known
  known_same (StepOf id) p q known same = ap (λ reported. after_reported reported known) (step_same touched leased since id p.world q.world same.worlds).reply
  known_same Other p q known same = next_told p.others p.world known same.within ∙ sym (next_told q.others q.world known (also_within p q same))

  -- ---- schedules

  pub after_same : (schedule : List Move) (p q : Place) → Alike p q → Alike (place_after schedule p) (place_after schedule q)
  after_same [] p q same = same
  after_same (m ∷ ms) p q same = after_same ms (moved m p) (moved m q) (moved_same m p q same)

  ends_same : (schedule : List Move) (p q : Place) (known : Ends) → Alike p q → ends_after schedule p known ≡ ends_after schedule q known
  ends_same [] p q known same = refl
  ends_same (m ∷ ms) p q known same =
      grind (arith, nat_tests, ends_go_along, moved_same, known_same, ends_same ms (moved m p) (moved m q) (ends_moved m p known) (moved_same m p q same))

  schedule_same : (schedule : List Move) (p q : Place) → Alike p q → IsSchedule schedule p → IsSchedule schedule q
  schedule_same [] p q same is = tt
  schedule_same (m ∷ ms) p q same is = grind (arith, nat_tests, moves_same, moved_same, schedule_same ms (moved m p) (moved m q) (moved_same m p q same) is.1)

  goes_on_same : (n : ℕ) (p q : Place) → Alike p q → goes_on n p ≡ goes_on n q
  goes_on_same zero p q same = refl
  goes_on_same (suc n) p q same =
      ap (λ (f : Move → Bool). list_any f (moves p)) (λ i m. goes_on_same n (moved m p) (moved m q) (moved_same m p q same) i)
      ∙ ap (list_any (λ m. goes_on n (moved m q))) (moves_same p q same)

  longest_same : (n : ℕ) (p q : Place) → Alike p q → IsLongest n p → IsLongest n q
  longest_same n p q same is = grind (arith, nat_tests, schedule_same, turned_places)

  -- ---- rules

  module _ (rule : ProgramTree) (within : KeepsTo touched leased rule) where
    rule_ends : (p q : Place) → Alike p q → end_alone rule p.world ≡ end_alone rule q.world
    rule_ends p q same =
        ap end_of (same_runs touched leased rule within (state_now p.world.standing.history) (state_now q.world.standing.history) (λ key. refl)
        (λ key is. ap (λ s. Some (seen_of s)) (same_now touched since p.world.standing.history q.world.standing.history same.worlds.store.history key is)))

    -- after a schedule the one place keeps it as the other does
    kept_same : (schedule : List Move) (p q : Place) → Alike p q → keeps rule (place_after schedule p).world ≡ keeps rule (place_after schedule q).world
    kept_same schedule p q same = ap is_done (rule_ends (place_after schedule p) (place_after schedule q) (after_same schedule p q same))

    back : (schedule : List Move) (p q : Place) → Alike p q → IsSchedule schedule q → IsSchedule schedule p
    back schedule p q same = schedule_same schedule q p (turned_places p q same)

    first_bad_same : (schedule : List Move) (p q : Place) → Alike p q → IsFirstBad (keeps rule) p schedule → IsFirstBad (keeps rule) q schedule
    first_bad_same schedule p q same is = grind (arith, nat_tests, schedule_same, kept_same, back)

pub agreeing_places_are_same : AgreeingPlacesAreSame
agreeing_places_are_same touched leased since p q same = record {
  turned = turned_places touched leased since p q same;
  moves = moves_same touched leased since p q same;
  moved = λ m. moved_same touched leased since m p q same;
  ends = λ m known. known_same touched leased since m p q known same;
  after = λ schedule. after_same touched leased since schedule p q same;
  ends_after = λ schedule known. ends_same touched leased since schedule p q known same;
  schedules = λ schedule. schedule_same touched leased since schedule p q same;
  goes_on = λ n. goes_on_same touched leased since n p q same;
  longest = λ n. longest_same touched leased since n p q same;
  rule_ends = λ rule within. rule_ends touched leased since rule within p q same;
  all_keep = λ rule within all schedule of_q.
      sym (kept_same touched leased since rule within schedule p q same) ∙ all schedule (back touched leased since rule within schedule p q same of_q);
  all_keep_up_to = λ rule n within all schedule of_q short.
      sym (kept_same touched leased since rule within schedule p q same) ∙ all schedule (back touched leased since rule within schedule p q same of_q) short;
  first_bad = λ rule schedule within. first_bad_same touched leased since rule within schedule p q same;
}
