-- Every schedule of runners at the serializable levels ends as a serial run does.
--
-- The turns of a schedule are gathered from its end. A run that commits has its turn where it commits. One that aborts, or comes to a fault, has it where the
-- store had the revision that its last attempt has read: at the step that fixed the base of that attempt, and until this comes it is late.
use Rattle.std.proofs.Common.{◌≡◌, ◌≢◌, ◌⊎◌, inl, inr, ℕ, zero, suc, ◌-◌, ◌<◌, ◌≤◌, List, [], ◌∷◌, length, Option, Some, None, Bool, true, false, cond, refl, sym, ◌∙◌}
use Rattle.std.proofs.Common.{ap, subst, arith}
use Rattle.std.specs.Prelude.{nat_eq, slice_get, slice_set}
use Rattle.std.proofs.lemmas.List.Elements.{All-from_recursion}
use Rattle.std.proofs.lemmas.Bool.Decides.{nat_tests}
use Rattle.stm_history.specs.declared.key_state.ReadAnswer.{ReadAnswer}
use Rattle.stm_history.specs.History.{History, now}
use Rattle.stm_program.specs.Levels.{is_serializable}
use Rattle.stm_program.specs.Syntax.{ProgramTree}
use Rattle.stm_steps.specs.declared.value.Value.{Value}
use Rattle.stm_steps.specs.declared.run.End.{End}
use Rattle.stm_steps.specs.declared.run.End.TheVariants.{Done as DoneEnd}
use Rattle.stm_steps.specs.declared.run.Run.{Run}
use Rattle.stm_steps.specs.declared.run.Answered.{Answered}
use Rattle.stm_steps.specs.declared.run.Answered.TheVariants.{Ended as EndedRun}
use Rattle.stm_meaning.specs.Answer.{Lookup}
use Rattle.stm_meaning.specs.Meaning.{run_over}
use Rattle.stm_meaning.specs.Laws.{IsContinuedBy}
use Rattle.stm_txn.specs.Standing.{Setup, Standing}
use Rattle.stm_compile.specs.Answers.{AreTrue, state_as_of, state_now}
use Rattle.stm_compile.proofs.AgreeLemmas.{answers_of_one_revision}
use Rattle.stm_attempt.specs.Fetches.{HaveOneBase}
use Rattle.stm_attempt.specs.Settled.{run_on}
use Rattle.stm_entries.specs.Laws.{AddsTo}
use Rattle.stm_events.specs.declared.event.WorldEvent.{WorldEvent}
use Rattle.stm_events.specs.declared.event.WorldEvent.TheVariants.{Start, Step}
use Rattle.stm_events.specs.Called.{Call, Calls, asked}
use Rattle.stm_events.proofs.CallReplies.{call_replies}
use Rattle.stm_world.specs.Sound.{IsSound}
use Rattle.stm_world.specs.Task.{Task}
use Rattle.stm_world.specs.World.{World, Runner, Slot, Over, Live, live_in, runner_at, with_slot, step}
use Rattle.stm_world.proofs.Bases.{IsWellRun, begin_runs}
use Rattle.stm_world.proofs.Calls.{call_adds}
use Rattle.stm_world.proofs.OneState.{all_show}
use Rattle.stm_world.proofs.Slots.{other_number, runner_there, runner_own, runner_other}
use Rattle.stm_world.proofs.Sound.{step_is_sound}
use Rattle.stm_schedules.specs.declared.moves.Move.{Move}
use Rattle.stm_schedules.specs.declared.moves.Move.TheVariants.{Step as StepOf, Other}
use Rattle.stm_schedules.specs.declared.outcome.RunnerEnd.{RunnerEnd}
use Rattle.stm_schedules.specs.declared.outcome.RunnerEnd.TheVariants as how
use Rattle.stm_schedules.specs.Outcomes.{Ends, with_end, after_reported, ends_moved, ends_after, AreKnown}
use Rattle.stm_schedules.specs.Places.{Place, moved}
use Rattle.stm_schedules.specs.Schedules.{place_after, IsSchedule}
use Rattle.stm_schedules.proofs.Gathered.{outcomes_are_those}
use Rattle.stm_schedules.proofs.MoveLemmas.{moves_are_those}
use Rattle.stm_serial.specs.Serial.{alone, after_foreign, AreForeign, is_foreign}
use Rattle.stm_serial.proofs.Serializing.{place, none_left, same_runners, standing_after}
use Rattle.stm_serial_laws.specs.Ends.{IsFresh, SchedulesEndSerially, counted, counts, end_alone, end_at, end_by, end_of_run, known_at}
use Rattle.stm_serial_laws.proofs.BaseReads.{BaseFrom, counter_grows, event_adds, state_is_now, state_stays}
use Rattle.stm_serial_laws.proofs.StepEnds.{Commits, GoesOn, IsOver, Stopped, Stops, step_does}
use Rattle.stm_serial_laws.proofs.Turns.{Turn, Whole, Event, AreAsMany, CanBe, IsNotIn, Runs, by_number, can_from, end_in, end_other, end_own, ends_are, is_serial}
use Rattle.stm_serial_laws.proofs.Turns.{left_in, left_is, moves_of, no_runner, none_in, not_in, other_turn, own_turn, store_in, store_is, as_many_after}

-- ---- what the others say of runners

is_call : (e : WorldEvent) → is_foreign e ≡ true → (c : Call) × (asked e ≡ Calls c)
is_call (Start program level limit) is = absurd (cc)
is_call (Step id) is = absurd (cc)
is_call _ is = (_, refl)

foreign_ends : (e : WorldEvent) (w : World) (ends : Ends) → is_foreign e ≡ true → after_reported (step e w).reply ends ≡ ends
foreign_ends e w ends foreign = grind (arith, nat_tests, is_call, call_adds, call_replies)

-- ---- runs that are told

abbrev final : List Move → Place → Ends → ℕ → Option RunnerEnd
final ms p ends id = end_at id (ends_after ms p ends)

-- The run of this runner comes to this end after this, and has no turn yet: it was the run alone on the state at the base of the reads that the
-- attempt has now.
record Late (id : ℕ) (r : Runner) (ts : List Turn) (h : History) (told : Option RunnerEnd) : Type 0 where
  not : IsNotIn id ts
  first : ReadAnswer
  rest : List ReadAnswer
  reads : r.known.reads ≡ first ∷ rest
  run : Run
  is_alone : run_over (state_as_of h first.of_rev) r.task.program.statements ≡ EndedRun run
  stops : Stops run.end
  is : told ≡ Some (end_by run.output run.end)

abbrev Told : ℕ → Runner → List Turn → List WorldEvent → World → Option RunnerEnd → Type 0
Told id r ts os w told = (end_in id ts os w.standing ≡ counted told) ⊎ Late id r ts w.standing.history told

-- turns for what is left of a schedule
record Gathered (ms : List Move) (os : List WorldEvent) (w : World) (ends : Ends) : Type 0 where
  turns : List Turn
  can : CanBe turns os w.runners
  standing : store_in turns os w.standing ≡ (place_after ms (place w os)).world.standing
  left : left_in turns os ≡ (place_after ms (place w os)).others
  told : (id : ℕ) (r : Runner) → runner_at id w.runners ≡ Some r → Told id r turns os w (final ms (place w os) ends id)
  over : (id : ℕ) → 0 < id → runner_at id w.runners ≡ None → final ms (place w os) ends id ≡ end_at id ends

-- ---- going back over a step

-- the turn of a run that stops, on the current state
record StopsHere (r : Runner) (s : Standing) (told : Option RunnerEnd) : Type 0 where
  run : Run
  is_alone : run_over (state_now s.history) r.task.program.statements ≡ EndedRun run
  stops : Stops run.end
  is : told ≡ Some (end_by run.output run.end)

store_stays : (r : Runner) (s : Standing) (told : Option RunnerEnd) → StopsHere r s told → alone r.task.program s ≡ s
store_stays r s told x = grind (arith, nat_tests, Stops)

tells_end : (r : Runner) (s : Standing) (told : Option RunnerEnd) → StopsHere r s told → end_alone r.task.program s ≡ counted told
tells_end r s told x = grind (arith, nat_tests)

-- what was late with the reads before is late still
late_same : (id : ℕ) (r after : Runner) (ts : List Turn) (h : History) (told : Option RunnerEnd) → after.task ≡ r.task → (l : Late id after ts h told) →
    (x : ReadAnswer) (xs : List ReadAnswer) → r.known.reads ≡ x ∷ xs → x.of_rev ≡ l.first.of_rev → Late id r ts h told
late_same id r after ts h told task l x xs reads same = grind (arith, nat_tests)

-- what is late with reads of the current revision has its turn here
late_here : (id : ℕ) (r after : Runner) (ts : List Turn) (s : Standing) (told : Option RunnerEnd) → after.task ≡ r.task → (l : Late id after ts s.history told) →
    l.first.of_rev ≡ now s.history → StopsHere r s told
late_here id r after ts s told task l base = grind (arith, nat_tests, state_is_now)

-- what is late of another runner is so before the store moved on
late_before : (id : ℕ) (r : Runner) (ts more : List Turn) (before after : History) (told : Option RunnerEnd) → AddsTo before after → AreTrue before r.known.reads →
    IsNotIn id more → (l : Late id r ts after told) → Late id r more before told
late_before id r ts more before after told adds truth not l =
    let reached : l.first.of_rev ≤ now before = (subst (AreTrue before) l.reads truth).0.reached in
    record {
      not = not;
      first = l.first;
      rest = l.rest;
      reads = l.reads;
      run = l.run;
      is_alone = ap (λ (look : Lookup). run_over look r.task.program.statements) (sym (state_stays before after l.first.of_rev adds reached)) ∙ l.is_alone;
      stops = l.stops;
      is = l.is;
    }

-- ---- runners at places that are written

placed : (P : ℕ → Runner → Type 0) (slots : List Slot) (id : ℕ) (r : Runner) (slot : Slot) → runner_at id slots ≡ Some r →
    ((x : Runner) → live_in (Some slot) ≡ Some x → P id x) → ((j : ℕ) (x : Runner) → id ≢ j → runner_at j slots ≡ Some x → P j x) →
    (j : ℕ) (x : Runner) → runner_at j (with_slot id slot slots) ≡ Some x → P j x
placed P slots id r slot found own other j x at = grind (arith, nat_tests, runner_there, by_number, runner_own, runner_other)

same_runner : (a b : Runner) (o : Option Runner) → o ≡ Some a → o ≡ Some b → a ≡ b
same_runner a b o first second = let both : Some a ≡ Some b = sym first ∙ second in cc

is_live : (a x : Runner) → live_in (Some (Live a)) ≡ Some x → a ≡ x
is_live a x is = cc

is_no_runner : (x : Runner) → live_in (Some Over) ≡ Some x → ⊥
is_no_runner x is = cc

-- ---- the runners on the way

abbrev start : Setup
start = record { revision = 1; limit = 1 }

-- each runner that has not ended is at a serializable level, and well run
record AreReady (w : World) : Type 0 where
  sound : IsSound w
  counter : 1 ≤ now w.standing.history
  ready : (id : ℕ) (r : Runner) → runner_at id w.runners ≡ Some r → (is_serializable r.task.level ≡ true) × IsWellRun start r

abbrev IsWell : ℕ → Runner → Type 0
IsWell id r = (is_serializable r.task.level ≡ true) × IsWellRun start r

ready_after : (e : WorldEvent) (w : World) → AreReady w → ((id : ℕ) (r : Runner) → runner_at id (step e w).next.runners ≡ Some r → IsWell id r) →
    AreReady (step e w).next
ready_after e w are each =
    record { sound = step_is_sound e w are.sound; counter = omega (arith, are.counter, counter_grows _ _ (event_adds e w are.sound)); ready = each }

-- after a step after which the runner stands so
slot_ready : (w : World) (id : ℕ) (r : Runner) (slot : Slot) → AreReady w → runner_at id w.runners ≡ Some r → (step (Step id) w).next.runners ≡ with_slot id slot w.runners →
    ((x : Runner) → live_in (Some slot) ≡ Some x → IsWell id x) → AreReady (step (Step id) w).next
slot_ready w id r slot are found runners own =
    ready_after (Step id) w are (λ j x at.
    placed IsWell w.runners id r slot found own (λ k y ne there. are.ready k y there) j x (subst (λ (l : List Slot). runner_at j l ≡ Some x) runners at))

-- ---- going back over a step of a runner

live_there : (id j : ℕ) (w next : World) (slot : Slot) (r x : Runner) → next.runners ≡ with_slot id slot w.runners → runner_at id w.runners ≡ Some r → id ≢ j →
    runner_at j w.runners ≡ Some x → runner_at j next.runners ≡ Some x
live_there id j w next slot r x runners found ne there = grind (arith, nat_tests, runner_other, runner_there)

over_there : (id j : ℕ) (w next : World) (slot : Slot) (r : Runner) → next.runners ≡ with_slot id slot w.runners → runner_at id w.runners ≡ Some r →
    runner_at j w.runners ≡ None → (id ≢ j) × (runner_at j next.runners ≡ None)
over_there id j w next slot r runners found none = grind (arith, nat_tests, no_runner, runner_other, runner_there)

-- the runner itself is over behind it
gone : (id : ℕ) (w next : World) (r : Runner) → next.runners ≡ with_slot id Over w.runners → runner_at id w.runners ≡ Some r → runner_at id next.runners ≡ None
gone id w next r runners found = grind (arith, nat_tests, runner_there, runner_own)

-- the runners of the turns run before the step, too
runs_before : (id : ℕ) (w next : World) (slot : Slot) (r : Runner) → next.runners ≡ with_slot id slot w.runners → runner_at id w.runners ≡ Some r →
    ((x : Runner) → live_in (Some slot) ≡ Some x → x.task ≡ r.task) → (j : ℕ) (program : ProgramTree) → Runs j program next.runners → Runs j program w.runners
runs_before id w next slot r runners found task j program runs =
    placed (λ k x. x.task.program ≡ program → Runs k program w.runners) w.runners id r slot found
    (λ x is same. (r, found, ap (λ (t : Task). t.program) (sym (task x is)) ∙ same)) (λ k x ne there same. (x, there, same)) j runs.0
    (subst (λ (l : List Slot). runner_at j l ≡ Some runs.0) runners runs.1) runs.2

-- what is told of another runner
others_told : (id j : ℕ) (r x : Runner) (ts more : List Turn) (os : List WorldEvent) (w next : World) (told : Option RunnerEnd) → AreReady w →
    AddsTo w.standing.history next.standing.history → runner_at j w.runners ≡ Some x → (IsNotIn j ts → IsNotIn j more) →
    end_in j more os w.standing ≡ end_in j ts os next.standing → Told j x ts os next told → Told j x more os w told
others_told id j r x ts more os w next told are adds there not same (inl on_time) = inl (same ∙ on_time)
others_told id j r x ts more os w next told are adds there not same (inr late) =
    inr (late_before j x ts more w.standing.history next.standing.history told adds (are.sound.truth j x there).0 (not late.not) late)

-- the ends after the moves behind it are those after all
final_is : (m : Move) (ms : List Move) (p : Place) (ends : Ends) (id : ℕ) → final (m ∷ ms) p ends id ≡ final ms (moved m p) (ends_moved m p ends) id
final_is m ms p ends id = ap (end_at id) (outcomes_are_those.ends m ms p ends)

-- what a step leaves to be told of the others, with the turns behind it and these in their place
record Leaves (id : ℕ) (os : List WorldEvent) (w next : World) (slot : Slot) (ts more : List Turn) (ends after : Ends) : Type 0 where
  runners : next.runners ≡ with_slot id slot w.runners
  can : CanBe more os w.runners
  store : store_in more os w.standing ≡ store_in ts os next.standing
  left : left_in more os ≡ left_in ts os
  absent : (j : ℕ) → id ≢ j → IsNotIn j ts → IsNotIn j more
  told : (j : ℕ) → id ≢ j → end_in j more os w.standing ≡ end_in j ts os next.standing
  ends_are : (j : ℕ) → 0 < j → id ≢ j → end_at j after ≡ end_at j ends

abbrev after_step : ℕ → World → World
after_step id w = (step (Step id) w).next

abbrev ends_step : ℕ → World → Ends → Ends
ends_step id w ends = after_reported (step (Step id) w).reply ends

-- how the runner ends in the end
abbrev told_of : ℕ → List Move → List WorldEvent → World → Ends → Option RunnerEnd
told_of id ms os w ends = final ms (place (after_step id w) os) (ends_step id w ends) id

back : (id : ℕ) (ms : List Move) (os : List WorldEvent) (w : World) (ends : Ends) (r : Runner) (slot : Slot) → AreReady w → runner_at id w.runners ≡ Some r →
    (rest : Gathered ms os (after_step id w) (ends_step id w ends)) → (more : List Turn) →
    Leaves id os w (after_step id w) slot rest.turns more ends (ends_step id w ends) →
    Told id r more os w (told_of id ms os w ends) → Gathered (StepOf id ∷ ms) os w ends
back id ms os w ends r slot are found rest more x mine =
    let next : World = after_step id w in
    let adds : AddsTo w.standing.history next.standing.history = event_adds (Step id) w are.sound in
    record {
      turns = more;
      can = x.can;
      standing = x.store ∙ rest.standing;
      left = x.left ∙ rest.left;
      told = λ j y at. by_number (λ k. (z : Runner) → runner_at k w.runners ≡ Some z → Told k z more os w (final (StepOf id ∷ ms) (place w os) ends k)) id j
          (λ z is. subst (λ (v : Runner). Told id v more os w (final (StepOf id ∷ ms) (place w os) ends id)) (same_runner r z (runner_at id w.runners) found is)
          (subst (Told id r more os w) (sym (final_is (StepOf id) ms (place w os) ends id)) mine))
          (λ ne z is. subst (Told j z more os w) (sym (final_is (StepOf id) ms (place w os) ends j))
          (others_told id j r z rest.turns more os w next _ are adds is (x.absent j ne) (x.told j ne)
          (rest.told j z (live_there id j w next slot r z x.runners found ne is)))) y at;
      over = λ j some none.
          let there = over_there id j w next slot r x.runners found none in
          final_is (StepOf id) ms (place w os) ends j ∙ rest.over j some there.1 ∙ x.ends_are j some there.0;
    }

-- a turn in front
absent_turn : (id j : ℕ) (program : ProgramTree) (ts : List Turn) → id ≢ j → IsNotIn j ts → IsNotIn j (Whole id program ∷ ts)
absent_turn id j program ts ne not = (other_number j id (λ same. ne (sym same)), not)

-- ---- a run that goes on

went_on : (id : ℕ) (ms : List Move) (os : List WorldEvent) (w : World) (ends : Ends) (r : Runner) → AreReady w → runner_at id w.runners ≡ Some r →
    GoesOn start id r w (step (Step id) w) → Gathered ms os (after_step id w) (ends_step id w ends) → Gathered (StepOf id ∷ ms) os w ends
went_on id ms os w ends r are found g rest = by_told (rest.told id g.after own)
  where
    runners : (after_step id w).runners ≡ with_slot id (Live g.after) w.runners
    runners = ap (λ (n : World). n.runners) g.next

    standing : (after_step id w).standing ≡ w.standing
    standing = ap (λ (n : World). n.standing) g.next

    own : runner_at id (after_step id w).runners ≡ Some g.after
    own = let there = runner_there id w.runners r found in ap (runner_at id) runners ∙ runner_own id w.runners (Live g.after) there.0 there.1

    task : (x : Runner) → live_in (Some (Live g.after)) ≡ Some x → x.task ≡ r.task
    task x is = ap (λ (y : Runner). y.task) (sym (is_live g.after x is)) ∙ g.task

    can : CanBe rest.turns os w.runners
    can = can_from rest.turns os (after_step id w).runners w.runners (runs_before id w (after_step id w) (Live g.after) r runners found task) rest.can

    same_ends : (j : ℕ) → 0 < j → id ≢ j → end_at j (ends_step id w ends) ≡ end_at j ends
    same_ends j some ne = ap (end_at j) (g.ends ends)

    without : Told id r rest.turns os w (told_of id ms os w ends) → Gathered (StepOf id ∷ ms) os w ends
    without mine = back id ms os w ends r (Live g.after) are found rest rest.turns (record {
      runners = runners;
      can = can;
      store = ap (store_in rest.turns os) (sym standing);
      left = refl;
      absent = λ j ne not. not;
      told = λ j ne. ap (end_in j rest.turns os) (sym standing);
      ends_are = same_ends;
    }) mine

    with_turn : IsNotIn id rest.turns → StopsHere r w.standing (told_of id ms os w ends) → Gathered (StepOf id ∷ ms) os w ends
    with_turn not here =
        let stays : alone r.task.program w.standing ≡ (after_step id w).standing = store_stays r w.standing (told_of id ms os w ends) here ∙ sym standing in
        back id ms os w ends r (Live g.after) are found rest (Whole id r.task.program ∷ rest.turns) (record {
          runners = runners;
          can = ((r, found, refl), not, can);
          store = ap (store_in rest.turns os) stays;
          left = refl;
          absent = λ j ne. absent_turn id j r.task.program rest.turns ne;
          told = λ j ne. other_turn id j r.task.program rest.turns os w.standing (other_number j id (λ same. ne (sym same))) ∙ ap (end_in j rest.turns os) stays;
          ends_are = same_ends;
        }) (inl (own_turn id r.task.program rest.turns os w.standing ∙ tells_end r w.standing (told_of id ms os w ends) here))

    by_late : Late id g.after rest.turns w.standing.history (told_of id ms os w ends) → Gathered (StepOf id ∷ ms) os w ends
    by_late late = elim (subst (BaseFrom w.standing.history r.known.reads) late.reads g.base) [
      | inl now_is ↦ with_turn late.not (late_here id r g.after rest.turns w.standing (told_of id ms os w ends) g.task late now_is)
      | inr before ↦ without (inr (late_same id r g.after rest.turns w.standing.history (told_of id ms os w ends) g.task late before.0 before.1 before.2 before.3))
    ]

    by_told : Told id g.after rest.turns os (after_step id w) (told_of id ms os w ends) → Gathered (StepOf id ∷ ms) os w ends
    by_told (inl on_time) = without (inl (ap (end_in id rest.turns os) (sym standing) ∙ on_time))
    by_told (inr late) = by_late (subst (λ (s : Standing). Late id g.after rest.turns s.history (told_of id ms os w ends)) standing late)

-- ---- a run that is over

no_task : (r x : Runner) → live_in (Some Over) ≡ Some x → x.task ≡ r.task
no_task r x is = absurd (is_no_runner x is)

-- how it ended, in the end
ended_so : (id : ℕ) (ms : List Move) (os : List WorldEvent) (w : World) (ends : Ends) (r : Runner) (e : RunnerEnd) → runner_at id w.runners ≡ Some r → AreAsMany w.runners ends →
    (after_step id w).runners ≡ with_slot id Over w.runners → ends_step id w ends ≡ with_end id e ends →
    Gathered ms os (after_step id w) (ends_step id w ends) → final ms (place (after_step id w) os) (ends_step id w ends) id ≡ Some e
ended_so id ms os w ends r e found many runners ends_are rest = grind (arith, nat_tests, ends_are, runner_there, gone, end_own)

other_ends : (id j : ℕ) (w : World) (ends : Ends) (r : Runner) (e : RunnerEnd) → runner_at id w.runners ≡ Some r → ends_step id w ends ≡ with_end id e ends → 0 < j → id ≢ j →
    end_at j (ends_step id w ends) ≡ end_at j ends
other_ends id j w ends r e found ends_are some ne = grind (arith, nat_tests, ends_are, end_other, runner_there)

not_counted : (e : RunnerEnd) → counts e ≡ false → counted (Some e) ≡ None
not_counted e none = ap (λ b. cond b (Some e) None) none

is_over : (id : ℕ) (ms : List Move) (os : List WorldEvent) (w : World) (ends : Ends) (r : Runner) → AreReady w → runner_at id w.runners ≡ Some r → AreAsMany w.runners ends →
    IsOver id r w (step (Step id) w) → Gathered ms os (after_step id w) (ends_step id w ends) → Gathered (StepOf id ∷ ms) os w ends
is_over id ms os w ends r are found many o rest = by_why o.why
  where
    runners : (after_step id w).runners ≡ with_slot id Over w.runners
    runners = ap (λ (n : World). n.runners) o.next

    standing : (after_step id w).standing ≡ w.standing
    standing = ap (λ (n : World). n.standing) o.next

    can : CanBe rest.turns os w.runners
    can = can_from rest.turns os (after_step id w).runners w.runners (runs_before id w (after_step id w) Over r runners found (no_task r)) rest.can

    not : IsNotIn id rest.turns
    not = not_in id rest.turns os (after_step id w).runners (gone id w (after_step id w) r runners found) rest.can

    is : (told_of id ms os w ends) ≡ Some o.end
    is = ended_so id ms os w ends r o.end found many runners (o.ends ends) rest

    without : Told id r rest.turns os w (told_of id ms os w ends) → Gathered (StepOf id ∷ ms) os w ends
    without mine = back id ms os w ends r Over are found rest rest.turns (record {
      runners = runners;
      can = can;
      store = ap (store_in rest.turns os) (sym standing);
      left = refl;
      absent = λ j ne not. not;
      told = λ j ne. ap (end_in j rest.turns os) (sym standing);
      ends_are = λ j some ne. other_ends id j w ends r o.end found (o.ends ends) some ne;
    }) mine

    with_turn : StopsHere r w.standing (told_of id ms os w ends) → Gathered (StepOf id ∷ ms) os w ends
    with_turn here =
        let stays : alone r.task.program w.standing ≡ (after_step id w).standing = store_stays r w.standing (told_of id ms os w ends) here ∙ sym standing in
        back id ms os w ends r Over are found rest (Whole id r.task.program ∷ rest.turns) (record {
          runners = runners;
          can = ((r, found, refl), not, can);
          store = ap (store_in rest.turns os) stays;
          left = refl;
          absent = λ j ne. absent_turn id j r.task.program rest.turns ne;
          told = λ j ne. other_turn id j r.task.program rest.turns os w.standing (other_number j id (λ same. ne (sym same))) ∙ ap (end_in j rest.turns os) stays;
          ends_are = λ j some ne. other_ends id j w ends r o.end found (o.ends ends) some ne;
        }) (inl (own_turn id r.task.program rest.turns os w.standing ∙ tells_end r w.standing (told_of id ms os w ends) here))

    one_base : HaveOneBase r.known.reads
    one_base = ((are.ready id r found).1.based (omega arith) (are.ready id r found).0).0

    by_reads : (stopped : Stopped r o.end) (reads : List ReadAnswer) → r.known.reads ≡ reads → AreTrue w.standing.history reads → HaveOneBase reads →
        run_on r.task.program reads ≡ EndedRun stopped.run → Gathered (StepOf id ∷ ms) os w ends
    by_reads stopped [] same truth base is_run =
        let continued : IsContinuedBy (run_on r.task.program []) (run_over (state_as_of w.standing.history (now w.standing.history)) r.task.program.statements) =
        answers_of_one_revision w.standing.history (now w.standing.history) [] r.task.program.statements tt (All-from_recursion (λ (a : ReadAnswer). a.of_rev ≡ now w.standing.history) [] tt) in
        with_turn (record {
          run = stopped.run;
          is_alone = ap (λ (look : Lookup). run_over look r.task.program.statements) (sym (state_is_now w.standing.history (now w.standing.history) refl))
              ∙ subst (λ (a : Answered). IsContinuedBy a (run_over (state_as_of w.standing.history (now w.standing.history)) r.task.program.statements)) is_run continued;
          stops = stopped.stops;
          is = is ∙ ap (λ (e : RunnerEnd). Some e) stopped.is;
        })
    by_reads stopped (a ∷ reads) same truth base is_run =
        let continued : IsContinuedBy (run_on r.task.program (a ∷ reads)) (run_over (state_as_of w.standing.history a.of_rev) r.task.program.statements) =
        answers_of_one_revision w.standing.history a.of_rev (a ∷ reads) r.task.program.statements truth
        (All-from_recursion (λ (x : ReadAnswer). x.of_rev ≡ a.of_rev) (a ∷ reads) (refl, all_show a.of_rev reads base.1)) in
        without (inr (record {
          not = not;
          first = a;
          rest = reads;
          reads = same;
          run = stopped.run;
          is_alone = subst (λ (x : Answered). IsContinuedBy x (run_over (state_as_of w.standing.history a.of_rev) r.task.program.statements)) is_run continued;
          stops = stopped.stops;
          is = is ∙ ap (λ (e : RunnerEnd). Some e) stopped.is;
        }))

    by_why : (counts o.end ≡ false) ⊎ Stopped r o.end → Gathered (StepOf id ∷ ms) os w ends
    by_why (inl none) = without (inl (none_in id rest.turns os w.standing not ∙ sym (ap counted is ∙ not_counted o.end none)))
    by_why (inr stopped) = by_reads stopped r.known.reads refl (are.sound.truth id r found).0 one_base stopped.is_run

-- ---- a run that commits

committed_output : (output : List Value) (e : End) → e ≡ DoneEnd → end_by output e ≡ how.Committed output
committed_output output e is = ap (end_by output) is

commits : (id : ℕ) (ms : List Move) (os : List WorldEvent) (w : World) (ends : Ends) (r : Runner) → AreReady w → runner_at id w.runners ≡ Some r → AreAsMany w.runners ends →
    Commits id r w (step (Step id) w) → Gathered ms os (after_step id w) (ends_step id w ends) → Gathered (StepOf id ∷ ms) os w ends
commits id ms os w ends r are found many c rest =
    let next : World = after_step id w in
    let program : ProgramTree = r.task.program in
    let e : RunnerEnd = how.Committed c.run.output in
    let can : CanBe rest.turns os w.runners =
    can_from rest.turns os next.runners w.runners (runs_before id w next Over r c.runners found (no_task r)) rest.can in
    let not : IsNotIn id rest.turns = not_in id rest.turns os next.runners (gone id w next r c.runners found) rest.can in
    let is : final ms (place next os) (ends_step id w ends) id ≡ Some e = ended_so id ms os w ends r e found many c.runners (c.ends ends) rest in
    back id ms os w ends r Over are found rest (Whole id program ∷ rest.turns) (record {
      runners = c.runners;
      can = ((r, found, refl), not, can);
      store = ap (store_in rest.turns os) (sym c.standing);
      left = refl;
      absent = λ j ne. absent_turn id j program rest.turns ne;
      told = λ j ne. other_turn id j program rest.turns os w.standing (other_number j id (λ same. ne (sym same))) ∙ ap (end_in j rest.turns os) (sym c.standing);
      ends_are = λ j some ne. other_ends id j w ends r e found (c.ends ends) some ne;
    })
    (inl (own_turn id program rest.turns os w.standing ∙ ap end_of_run c.is_run
    ∙ ap (λ (x : RunnerEnd). Some x) (committed_output c.run.output c.run.end c.done) ∙ sym (ap counted is)))

-- ---- an event of the others

brought : (e : WorldEvent) (ms : List Move) (os : List WorldEvent) (w : World) (ends : Ends) → AreReady w → is_foreign e ≡ true →
    Gathered ms os (step e w).next (after_reported (step e w).reply ends) → Gathered (Other ∷ ms) (e ∷ os) w ends
brought e ms os w ends are foreign rest =
    let next : World = (step e w).next in
    let p : Place = place w (e ∷ os) in
    let runners : next.runners ≡ w.runners = same_runners e w foreign in
    let standing : next.standing ≡ after_foreign e w.standing = standing_after e w foreign in
    let adds : AddsTo w.standing.history next.standing.history = event_adds e w are.sound in
    record {
      turns = Event ∷ rest.turns;
      can = subst (CanBe rest.turns os) runners rest.can;
      standing = ap (store_in rest.turns os) (sym standing) ∙ rest.standing;
      left = rest.left;
      told = λ j x at. subst (Told j x (Event ∷ rest.turns) (e ∷ os) w) (sym (final_is Other ms p ends j))
          (event_told e j x rest.turns os w next _ are adds at (ap (end_in j rest.turns os) (sym standing)) (rest.told j x (ap (runner_at j) runners ∙ at)));
      over = λ j some none. final_is Other ms p ends j ∙ rest.over j some (ap (runner_at j) runners ∙ none) ∙ ap (end_at j) (foreign_ends e w ends foreign);
    }
  where
    event_told : (e : WorldEvent) (j : ℕ) (x : Runner) (ts : List Turn) (os : List WorldEvent) (w next : World) (told : Option RunnerEnd) → AreReady w →
        AddsTo w.standing.history next.standing.history → runner_at j w.runners ≡ Some x →
        end_in j (Event ∷ ts) (e ∷ os) w.standing ≡ end_in j ts os next.standing → Told j x ts os next told → Told j x (Event ∷ ts) (e ∷ os) w told
    event_told e j x ts os w next told are adds there same (inl on_time) = inl (same ∙ on_time)
    event_told e j x ts os w next told are adds there same (inr late) =
        inr (late_before j x ts (Event ∷ ts) w.standing.history next.standing.history told adds (are.sound.truth j x there).0 late.not late)

-- ---- what is known of ends on the way

-- nothing of runners that have not ended, and there are as many ends as runners
record AreUnknown (w : World) (ends : Ends) : Type 0 where
  none : (id : ℕ) (r : Runner) → runner_at id w.runners ≡ Some r → end_at id ends ≡ None
  many : AreAsMany w.runners ends

still_unknown : (id : ℕ) (w : World) (ends : Ends) (r after : Runner) → AreUnknown w ends → runner_at id w.runners ≡ Some r →
    (after_step id w).runners ≡ with_slot id (Live after) w.runners → ends_step id w ends ≡ ends → AreUnknown (after_step id w) (ends_step id w ends)
still_unknown id w ends r after un found runners same = record {
  none = λ j x at. ap (end_at j) same ∙ placed (λ k y. end_at k ends ≡ None) w.runners id r (Live after) found (λ y is. un.none id r found) (λ k y ne there. un.none k y there) j x
      (subst (λ (l : List Slot). runner_at j l ≡ Some x) runners at);
  many = ap length runners ∙ sym (as_many_same w.runners (id - 1) (Live after)) ∙ un.many ∙ sym (ap length same);
}
  where
    as_many_same : (slots : List Slot) (i : ℕ) (slot : Slot) → length slots ≡ length (slice_set slots i slot)
    as_many_same [] zero slot = refl
    as_many_same [] (suc i) slot = refl
    as_many_same (s ∷ slots) zero slot = refl
    as_many_same (s ∷ slots) (suc i) slot = ap suc (as_many_same slots i slot)

then_known : (id : ℕ) (w : World) (ends : Ends) (r : Runner) (e : RunnerEnd) → AreUnknown w ends → runner_at id w.runners ≡ Some r →
    (after_step id w).runners ≡ with_slot id Over w.runners → ends_step id w ends ≡ with_end id e ends → AreUnknown (after_step id w) (ends_step id w ends)
then_known id w ends r e un found runners same = record {
  none = λ j x at. ap (end_at j) same
      ∙ placed (λ k y. end_at k (with_end id e ends) ≡ None) w.runners id r Over found (λ y is. absurd (is_no_runner y is))
      (λ k y ne there. end_other id k ends (Some e) (runner_there id w.runners r found).0 (runner_there k w.runners y there).0 ne ∙ un.none k y there) j x
      (subst (λ (l : List Slot). runner_at j l ≡ Some x) runners at);
  many = ap length runners ∙ as_many_after id w.runners Over ends (Some e) un.many ∙ sym (ap length same);
}

-- ---- the turns of a schedule

gathered : (ms : List Move) (os : List WorldEvent) (w : World) (ends : Ends) → AreReady w → AreUnknown w ends → AreForeign os → IsSchedule ms (place w os) →
    Gathered ms os w ends
gathered [] os w ends are un foreign is = record {
  turns = [];
  can = tt;
  standing = refl;
  left = refl;
  told = λ id r at. inl (sym (ap counted (un.none id r at)));
  over = λ id some none. refl;
}
gathered (StepOf id ∷ ms) os w ends are un foreign is =
    let found = (moves_are_those.steps (place w os) id).0 is.0 in
    let r : Runner = found.0 in
    let mine = are.ready id r found.1 in
    elim (step_does start w id r (record { level = mine.0; counter = are.counter; well = mine.1 }) are.sound found.1) [
      | inl g ↦
          let runners : (after_step id w).runners ≡ with_slot id (Live g.after) w.runners = ap (λ (n : World). n.runners) g.next in
          went_on id ms os w ends r are found.1 g
          (gathered ms os (after_step id w) (ends_step id w ends)
          (slot_ready w id r (Live g.after) are found.1 runners (λ x at. subst (IsWell id) (is_live g.after x at) (ap (λ (t : Task). is_serializable t.level) g.task ∙ mine.0, g.well)))
          (still_unknown id w ends r g.after un found.1 runners (g.ends ends)) foreign is.1)
      | inr over ↦ elim over [
        | inl o ↦
            let runners : (after_step id w).runners ≡ with_slot id Over w.runners = ap (λ (n : World). n.runners) o.next in
            is_over id ms os w ends r are found.1 un.many o
            (gathered ms os (after_step id w) (ends_step id w ends)
            (slot_ready w id r Over are found.1 runners (λ x at. absurd (is_no_runner x at)))
            (then_known id w ends r o.end un found.1 runners (o.ends ends)) foreign is.1)
        | inr c ↦
            commits id ms os w ends r are found.1 un.many c
            (gathered ms os (after_step id w) (ends_step id w ends)
            (slot_ready w id r Over are found.1 c.runners (λ x at. absurd (is_no_runner x at)))
            (then_known id w ends r (how.Committed c.run.output) un found.1 c.runners (c.ends ends)) foreign is.1)
      ]
    ]
gathered (Other ∷ ms) [] w ends are un foreign is = absurd (none_left w is.0)
gathered (Other ∷ ms) (e ∷ os) w ends are un foreign is =
    let runners : (step e w).next.runners ≡ w.runners = same_runners e w foreign.0 in
    let same : after_reported (step e w).reply ends ≡ ends = foreign_ends e w ends foreign.0 in
    brought e ms os w ends are foreign.0
    (gathered ms os (step e w).next (after_reported (step e w).reply ends)
    (ready_after e w are (λ id r at. are.ready id r (sym (ap (runner_at id) runners) ∙ at)))
    (record {
      none = λ id r at. ap (end_at id) same ∙ un.none id r (sym (ap (runner_at id) runners) ∙ at);
      many = ap length runners ∙ un.many ∙ sym (ap length same);
    }) foreign.1 is.1)

-- ---- the law

no_end : (slots : List Slot) (ends : Ends) (i : ℕ) (r : Runner) → live_in (slice_get slots i) ≡ Some r → AreKnown slots ends → known_at (slice_get ends i) ≡ None
no_end [] ends i r live known = absurd (cc)
no_end (s ∷ slots) [] i r live known = absurd known
no_end (Over ∷ slots) (e ∷ ends) zero r live known = absurd (cc)
no_end (Live x ∷ slots) (None ∷ ends) zero r live known = refl
no_end (Live x ∷ slots) (Some e ∷ ends) zero r live known = absurd known.0
no_end (s ∷ slots) (e ∷ ends) (suc i) r live known = no_end slots ends i r live known.1

as_many : (slots : List Slot) (ends : Ends) → AreKnown slots ends → AreAsMany slots ends
as_many [] [] known = refl
as_many [] (e ∷ ends) known = absurd known
as_many (s ∷ slots) [] known = absurd known
as_many (s ∷ slots) (e ∷ ends) known = ap suc (as_many slots ends known.1)

live_at : (b : Bool) (o : Option Runner) (r : Runner) → cond b None o ≡ Some r → o ≡ Some r
live_at b o r is = grind (arith, nat_tests)

well_begun : (r : Runner) → IsFresh r → IsWellRun start r
well_begun r fresh = subst (IsWellRun start) (sym fresh.begun) (begin_runs start r.task fresh.some)

in_time : (id : ℕ) (r : Runner) (ts : List Turn) (os : List WorldEvent) (w : World) (told : Option RunnerEnd) → IsFresh r → Told id r ts os w told →
    end_in id ts os w.standing ≡ counted told
in_time id r ts os w told fresh h8 = grind (arith, nat_tests)

pub schedules_end_serially : SchedulesEndSerially
schedules_end_serially schedule p ends from is =
    let w : World = p.world in
    let are : AreReady w = record { sound = from.sound; counter = from.counter; ready = λ id r at. ((from.fresh id r at).level, well_begun r (from.fresh id r at)) } in
    let un : AreUnknown w ends = record {
      none = λ id r at. no_end w.runners ends (id - 1) r (live_at (nat_eq id 0) (live_in (slice_get w.runners (id - 1))) r at) from.known;
      many = as_many w.runners ends from.known;
    } in
    let all : Gathered schedule p.others w ends = gathered schedule p.others w ends are un from.foreign is in
    record {
      run = moves_of all.turns;
      is_serial = is_serial all.turns p.others w.standing w.runners all.can;
      standing = store_is all.turns p.others w.standing w.runners all.can ∙ all.standing;
      others = left_is all.turns p.others w.standing w.runners all.can ∙ all.left;
      ends_are = λ id r at. ends_are all.turns p.others w.standing w.runners ends id (runner_there id w.runners r at).0 un.many all.can (un.none id r at)
          ∙ in_time id r all.turns p.others w _ (from.fresh id r at) (all.told id r at);
    }
