-- What a search through places in which runners wait finds.
use Rattle.std.proofs.Common.{◌≡◌, ℕ, suc, List, length, Some, refl, subst}
use Rattle.stm_program.specs.Syntax.{ProgramTree}
use Rattle.stm_steps.specs.declared.run.End.{End}
use Rattle.stm_events.specs.declared.event.WorldEvent.{WorldEvent}
use Rattle.stm_world.specs.World.{World}
use Rattle.stm_schedules.specs.declared.moves.Move.{Move}
use Rattle.stm_schedules.specs.Places.{Place}
use Rattle.stm_schedules.specs.Schedules.{place_after}
use Rattle.stm_schedules.specs.Outcomes.{Ends, ends_after}
use Rattle.stm_visited.specs.Answers.{IsVisited}
use Rattle.stm_visited.specs.declared.visited.Visited.{Visited}
use Rattle.stm_visited.specs.declared.visited.Visited.TheVariants.{Always as AlwaysKept, Broken as BrokenBy, Open as OpenAt}
use Rattle.stm_explore.specs.declared.places.ReportedPlace.{ReportedPlace}
use Rattle.stm_explore.specs.declared.waits.Wait.{Wait}
use Rattle.stm_explore.specs.declared.asking.When.{When}
use Rattle.stm_explore.specs.Asked.{end_for}
use Rattle.stm_explore.specs.declared.exploring.Explored.TheVariants.{Always, Broken, Open}
use Rattle.stm_explore.specs.Spots.{place_of}
use Rattle.stm_explore.specs.Waiting.{waiting_steps, IsShortestBad, IsExploredPatiently}
use Rattle.stm_explore.proofs.PatientSchedules.{none_bad_up_to, none_longer, is_first, as_long}
use Rattle.stm_explore.proofs.Walking.{at_start}

-- ---- what is found from the start

-- nothing was taken there
abbrev pub start_of : World → Ends → ReportedPlace
start_of w ends = record { at = record { world = w; taken = 0 }; ends = ends }

pub always_patient : (waits : List Wait) (when : When) (rule : ProgramTree) (others : List WorldEvent) (w : World) (ends : Ends) (longest : ℕ) →
    IsVisited (waiting_steps waits when rule others) (start_of w ends) (let it : Visited Move = AlwaysKept longest in it) →
    IsExploredPatiently waits when rule (record { world = w; others = others }) ends (Always longest)
always_patient waits when rule others w ends longest v =
    subst (λ (p : Place). IsExploredPatiently waits when rule p ends (Always longest)) (at_start others w) (
      λ schedule from within. none_bad_up_to waits when rule others longest (start_of w ends) schedule v.0 from within,
      as_long waits when rule others longest (start_of w ends) v.1,
      λ schedule from. none_longer waits when rule others longest (start_of w ends) schedule v.2 from,
    )

pub open_patient : (waits : List Wait) (when : When) (rule : ProgramTree) (others : List WorldEvent) (w : World) (ends : Ends) (kept : ℕ) →
    IsVisited (waiting_steps waits when rule others) (start_of w ends) (let it : Visited Move = OpenAt kept in it) →
    IsExploredPatiently waits when rule (record { world = w; others = others }) ends (Open kept)
open_patient waits when rule others w ends kept v =
    subst (λ (p : Place). IsExploredPatiently waits when rule p ends (Open kept)) (at_start others w) (
      λ schedule from within. none_bad_up_to waits when rule others kept (start_of w ends) schedule v.0 from within,
      as_long waits when rule others (suc kept) (start_of w ends) v.1,
    )

shortest_from : (waits : List Wait) (when : When) (rule : ProgramTree) (others : List WorldEvent) (w : World) (ends : Ends) (schedule : List Move) →
    IsVisited (waiting_steps waits when rule others) (start_of w ends) (BrokenBy schedule) →
    IsShortestBad waits when rule (place_of others (start_of w ends).at) ends schedule
shortest_from waits when rule others w ends schedule v =
    let first = is_first waits when rule others (length schedule) (start_of w ends) schedule refl v in
    record { is_patient = first.from; is_bad = first.is_bad; shorter_keep = first.shorter_keep }

pub broken_patient : (waits : List Wait) (when : When) (rule : ProgramTree) (others : List WorldEvent) (w : World) (ends : Ends) (schedule : List Move) (end : End) →
    IsVisited (waiting_steps waits when rule others) (start_of w ends) (BrokenBy schedule) →
    end_for when rule (place_after schedule (record { world = w; others = others })).world.standing.history
    (ends_after schedule (record { world = w; others = others }) ends) ≡ Some end →
    IsExploredPatiently waits when rule (record { world = w; others = others }) ends (Broken schedule end)
broken_patient waits when rule others w ends schedule end v is =
    (subst (λ (p : Place). IsShortestBad waits when rule p ends schedule) (at_start others w) (shortest_from waits when rule others w ends schedule v), is)
