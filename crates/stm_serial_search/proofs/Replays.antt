-- Moves that are made in a world.
use Rattle.std.proofs.Common.{◌≡◌, ℕ, ◌<◌, List, [], ◌∷◌, ◌++◌, length, drop, get_or, Option, Some, None, true, false, refl, sym, ◌∙◌, ap, subst, arith}
use Rattle.std.specs.Prelude.{is_some, IfSome}
use Rattle.stm_events.specs.declared.event.WorldEvent.{WorldEvent}
use Rattle.stm_events.specs.declared.event.WorldEvent.TheVariants.{Step}
use Rattle.stm_program.specs.Syntax.{ProgramTree}
use Rattle.stm_steps.specs.declared.run.End.{End}
use Rattle.stm_world.specs.World.{World, Runner, runner_at, step, world_after}
use Rattle.stm_schedules.specs.declared.moves.Move.{Move}
use Rattle.stm_schedules.specs.declared.moves.Move.TheVariants.{Step as StepOf, Other}
use Rattle.stm_schedules.specs.Places.{Place, moves, event_of, left_after}
use Rattle.stm_schedules.specs.Schedules.{place_after, IsSchedule}
use Rattle.stm_schedules.specs.Keeping.{is_done, end_alone}
use Rattle.stm_schedules.proofs.Members.{contained}
use Rattle.stm_schedules.proofs.MoveLemmas.{step_is_move, other_is_move}
use Rattle.stm_schedules.proofs.Runs.{schedules_are_runs}
use Rattle.stm_serial_search.specs.Replaying.{LeadsTo, GoesOn, StepsOn, HasLed, IsNotDone, IsBreak}
use Rattle.stm_serial_search.specs.declared.replaying.Break.{Break}

abbrev place : World → List WorldEvent → Place
place w others = record { world = w; others = others }

-- one move more
one_more : (p : Place) (made : List Move) (w : World) (others : List WorldEvent) (m : Move) → LeadsTo p made w others →
    IsSchedule (m ∷ []) (place w others) → LeadsTo p (made ++ m ∷ []) (world_after (event_of m others) w) (left_after m others)
one_more p made w others m l is = record {
  is_schedule = schedules_are_runs.appended made (m ∷ []) p l.is_schedule (subst (λ (at : Place). IsSchedule (m ∷ []) at) (sym l.place) is);
  place = schedules_are_runs.joined made (m ∷ []) p ∙ ap (λ (at : Place). place_after (m ∷ []) at) l.place;
}

running : (o : Option Runner) → is_some o ≡ true → (r : Runner) × (o ≡ Some r)
running None is = absurd (cc)
running (Some r) is = (r, refl)

pub step_made : (w next : World) (id : ℕ) (before after : List Move) → is_some (runner_at id w.runners) ≡ true → next ≡ (step (Step id) w).next →
    after ≡ before ++ StepOf id ∷ [] → StepsOn before w after next
step_made w next id before after is stepped pushed others p l =
    let r = running (runner_at id w.runners) is in
    let more : LeadsTo p (before ++ StepOf id ∷ []) (step (Step id) w).next others =
    one_more p before w others (StepOf id) l
    (contained (StepOf id) (moves (place w others)) (step_is_move (place w others) id r.0 r.1), tt) in
    subst (λ (ms : List Move). LeadsTo p ms next others) (sym pushed) (subst (λ (x : World). LeadsTo p (before ++ StepOf id ∷ []) x others) (sym stepped) more)

pub other_made : (w next : World) (others left : List WorldEvent) (e : WorldEvent) (before after : List Move) → 0 < length others → e ≡ get_or others 0 e →
    next ≡ (step e w).next → left ≡ drop 1 others → after ≡ before ++ Other ∷ [] → GoesOn before w others after next left
other_made w next [] left e before after some at stepped is pushed p l = absurd (omega arith)
other_made w next (first ∷ es) left e before after some at stepped is pushed p l =
    let more : LeadsTo p (before ++ Other ∷ []) (step first w).next es =
    one_more p before w (first ∷ es) Other l
    (contained Other (moves (place w (first ∷ es))) (other_is_move (place w (first ∷ es)) first es refl), tt) in
    subst (λ (ms : List Move). LeadsTo p ms next left) (sym pushed)
    (subst (λ (x : World). LeadsTo p (before ++ Other ∷ []) x left) (sym (stepped ∙ ap (λ (x : WorldEvent). (step x w).next) at))
    (subst (λ (rest : List WorldEvent). LeadsTo p (before ++ Other ∷ []) (step first w).next rest) (sym is) more))

-- what was made from the beginning
begins : (w : World) (others : List WorldEvent) → LeadsTo (place w others) [] w others
begins w others = record { is_schedule = tt; place = refl }

keeps_by : (o : Option End) (end : End) → o ≡ Some end → is_done (Some end) ≡ false → is_done o ≡ false
keeps_by o end is not = ap is_done is ∙ not

is_break : (rule : ProgramTree) (p : Place) (made : List Move) (w : World) (left : List WorldEvent) (end : End) → LeadsTo p made w left →
    end_alone rule w ≡ Some end → IsNotDone end → IsBreak rule p made end
is_break rule p made w left end l is not =
    let same : end_alone rule (place_after made p).world ≡ Some end = ap (λ (at : Place). end_alone rule at.world) l.place ∙ is in
    record { is_schedule = l.is_schedule; is_bad = keeps_by (end_alone rule (place_after made p).world) end same not; ends = same }

-- what a serial run that was made from the beginning has found
pub found_break : (rule : ProgramTree) (w next : World) (others : List WorldEvent) (start made moves : List Move) (end : End) (found : Option Break) →
    start ≡ [] → HasLed start w others made next → end_alone rule next ≡ Some end → moves ≡ made →
    IfSome found (λ it. (it.moves ≡ moves) × (it.end ≡ end) × IsNotDone end) → IfSome found (λ it. IsBreak rule (place w others) it.moves it.end)
found_break rule w next others start made moves end None empty led ends same is = tt
found_break rule w next others start made moves end (Some it) empty led ends same is =
    let p : Place = place w others in
    let l = led p (subst (λ (ms : List Move). LeadsTo p ms w others) (sym empty) (begins w others)) in
    subst (λ (ms : List Move). IsBreak rule p ms it.end) (sym (is.0 ∙ same))
    (subst (λ (e : End). IsBreak rule p made e) (sym is.1) (is_break rule p made next l.0 end l.1 ends is.2))
