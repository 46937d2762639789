-- The place from which the schedules of a scenario go, as the code has it at hand.
use Rattle.std.proofs.Common.{◌≡◌, List, [], sym, ap, ◌∙◌, subst}
use Rattle.stm_events.specs.declared.event.WorldEvent.{WorldEvent}
use Rattle.stm_world.specs.World.{World, opened, world_after, replies_to}
use Rattle.stm_schedules.specs.Outcomes.{Ends, after_replies}
use Rattle.stm_schedules.specs.Places.{Place}
use Rattle.stm_schedules.specs.Scenarios.{up_to_last_start, after_last_start}
use Rattle.stm_program.specs.Syntax.{ProgramTree}
use Rattle.stm_serial_search.specs.Search.{AreProgramsOf, programs_started}
use Rattle.stm_serial_search.specs.Started.{HaveNoStep}
use Rattle.stm_serial_search.proofs.Comparisons.{started_are_those}
use Rattle.stm_texts.specs.declared.scenario.Scenario.{Scenario}
use Rattle.stm_texts.specs.Opens.{setup_of}
use Rattle.stm_exploring.specs.declared.rules.Rule.{Rule}
use Rattle.stm_exploring.specs.declared.beginning.Begun.{Begun}
use Rattle.stm_exploring.specs.Asking.{place_of, ends_of, opening_of}
use Rattle.stm_exploring.specs.Beginnings.{HasBegun, whole_place}

-- the place once the set-up was run, with these others
pub placed_by : (s : Scenario) (setup others events : List WorldEvent) (w after : World) → setup ≡ up_to_last_start events → others ≡ after_last_start events →
    events ≡ s.events → w ≡ opened (opening_of s) → after ≡ world_after setup w → (let p : Place = record { world = after; others = others } in p ≡ place_of s)
placed_by s setup others events w after front rest all new run =
    ap (λ (x : World). let p : Place = record { world = x; others = others } in p)
    (run ∙ ap (world_after setup) new ∙ ap (λ (es : List WorldEvent). world_after es (opened (opening_of s))) (front ∙ ap up_to_last_start all))
    ∙ ap (λ (es : List WorldEvent). let p : Place = record { world = world_after (up_to_last_start s.events) (opened (opening_of s)); others = es } in p)
    (rest ∙ ap after_last_start all)

-- what is known there of the runners' ends
pub ends_are : (s : Scenario) (setup events : List WorldEvent) (w : World) → setup ≡ up_to_last_start events → events ≡ s.events → w ≡ opened (opening_of s) →
    after_replies (replies_to setup w) [] ≡ ends_of s
ends_are s setup events w front all new =
    ap (λ (es : List WorldEvent). after_replies (replies_to es w) []) (front ∙ ap up_to_last_start all)
    ∙ ap (λ (x : World). after_replies (replies_to (up_to_last_start s.events) x) []) new

-- what is so there is so where the schedules begin
pub so_begun : (So : Place → Ends → Type 0) (s : Scenario) (rules : List Rule) (b : Begun) → HasBegun s rules b → So (whole_place b) b.ends.items →
    So (place_of s) (ends_of s)
so_begun So s rules b begun is = subst (λ (p : Place). So p (ends_of s)) begun.place (subst (So (whole_place b)) begun.ends is)

-- ---- the programs of its runners

pub programs_are : (s : Scenario) (setup events : List WorldEvent) (programs : List ProgramTree) → setup ≡ up_to_last_start events → events ≡ s.events →
    programs ≡ programs_started setup → HaveNoStep s.events → AreProgramsOf programs (place_of s).world.runners
programs_are s setup events programs front all started none =
    subst (λ (ps : List ProgramTree). AreProgramsOf ps (place_of s).world.runners)
    (sym (started ∙ ap programs_started (front ∙ ap up_to_last_start all))) (started_are_those (setup_of s.opening) s.events none)
