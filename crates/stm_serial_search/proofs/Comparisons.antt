-- Events of which each is so, and the programs that are started.
use Rattle.std.proofs.Common.{◌≡◌, ℕ, zero, suc, ◌+◌, ◌-◌, ◌<◌, ◌≤◌, List, [], ◌∷◌, ◌++◌, length, drop, Some, None, Bool, true, false, cond}
use Rattle.std.proofs.Common.{refl, sym, ◌∙◌, ap, subst, append_assoc, append-nil, length-append, arith}
use Rattle.std.specs.Prelude.{nat_eq, slice_get, Ok}
use Rattle.stm_program.specs.Syntax.{ProgramTree}
use Rattle.stm_events.specs.declared.event.WorldEvent.{WorldEvent}
use Rattle.stm_events.specs.declared.event.WorldEvent.TheVariants.{Start, Step}
use Rattle.stm_events.specs.declared.reply.Reply.TheVariants.{Started}
use Rattle.stm_events.specs.declared.refusal.EventRefusal.TheVariants.{BadLimit}
use Rattle.stm_world.specs.Task.{Task}
use Rattle.stm_world.specs.World.{World, Runner, Slot, Live, live_in, runner_at, refused, begin, start_runner, step, opened, world_after}
use Rattle.stm_world.proofs.Slots.{equal_numbers, differ, runner_there, runner_new, runner_old, count_grows, no_runner}
use Rattle.stm_schedules.specs.Scenarios.{up_to_last_start, after_last_start}
use Rattle.stm_schedules.proofs.Splits.{scenarios_are_split}
use Rattle.stm_serial_search.specs.Search.{AreProgramsOf, program_started, programs_started}
use Rattle.stm_serial_search.specs.Started.{is_step, HaveNoStep, StartedAreThose}

-- ---- events of which each is so

-- each of these events is so
abbrev pub EachIs : (WorldEvent → Bool) → List WorldEvent → Type 0
EachIs is [] = Unit {0}
EachIs is (e ∷ es) = (is e ≡ true) × EachIs is es

-- where those from here on are so, all are
pub record SoFar (is : WorldEvent → Bool) (i : ℕ) (events : List WorldEvent) : Type 0 where
  pub all : EachIs is (drop i events) → EachIs is events

-- ---- the programs that are started

-- those of these events are these, and then those of the events from here on
pub record StartedSoFar (programs : List ProgramTree) (i : ℕ) (events : List WorldEvent) : Type 0 where
  pub all : programs ++ programs_started (drop i events) ≡ programs_started events

-- ---- they are those of the runners

-- a program for each place, those of the runners at theirs
record HasPrograms (programs : List ProgramTree) (slots : List Slot) : Type 0 where
  count : length programs ≡ length slots
  are : AreProgramsOf programs slots

last_program : (programs : List ProgramTree) (p : ProgramTree) → slice_get (programs ++ p ∷ []) (length programs) ≡ Some p
last_program [] p = refl
last_program (q ∷ programs) p = last_program programs p

old_program : (programs : List ProgramTree) (p : ProgramTree) (i : ℕ) → i < length programs → slice_get (programs ++ p ∷ []) i ≡ slice_get programs i
old_program [] p i within = absurd (omega arith)
old_program (q ∷ programs) p zero within = refl
old_program (q ∷ programs) p (suc i) within = old_program programs p i (omega arith)

new_runner : (task : Task) (r : Runner) → live_in (Some (Live (begin task))) ≡ Some r → task.program ≡ r.task.program
new_runner task r is = let same : begin task ≡ r = cc in ap (λ (x : Runner). x.task.program) same

program_by : (programs : List ProgramTree) (slots : List Slot) (task : Task) (id : ℕ) (r : Runner) (b : Bool) → nat_eq id (length slots + 1) ≡ b →
    HasPrograms programs slots → runner_at id (slots ++ Live (begin task) ∷ []) ≡ Some r →
    slice_get (programs ++ task.program ∷ []) (id - 1) ≡ Some r.task.program
program_by programs slots task id r true is has found =
    let same : id ≡ length slots + 1 = equal_numbers id (length slots + 1) is in
    let long : length programs ≡ length slots = has.count in
    let last : id - 1 ≡ length programs = omega arith in
    let new : live_in (Some (Live (begin task))) ≡ Some r =
    sym (runner_new slots (Live (begin task))) ∙ subst (λ (k : ℕ). runner_at k (slots ++ Live (begin task) ∷ []) ≡ Some r) same found in
    ap (slice_get (programs ++ task.program ∷ [])) last ∙ last_program programs task.program ∙ ap (λ (p : ProgramTree). Some p) (new_runner task r new)
program_by programs slots task id r false is has found =
    let old : runner_at id slots ≡ Some r = sym (runner_old slots (Live (begin task)) id (differ id (length slots + 1) is)) ∙ found in
    let there = runner_there id slots r old in
    let some : 0 < id = there.0 in
    let most : id ≤ length slots = there.1 in
    let long : length programs ≡ length slots = has.count in
    let within : id - 1 < length programs = omega arith in
    old_program programs task.program (id - 1) within ∙ has.are id r old

one_runner : (programs : List ProgramTree) (slots : List Slot) (task : Task) → HasPrograms programs slots →
    HasPrograms (programs ++ task.program ∷ []) (slots ++ Live (begin task) ∷ [])
one_runner programs slots task has = record {
  count = length-append programs (task.program ∷ []) ∙ ap (λ (n : ℕ). n + 1) has.count ∙ sym (count_grows slots (Live (begin task)));
  are = λ id r found. program_by programs slots task id r (nat_eq id (length slots + 1)) refl has found;
}

no_more : (programs : List ProgramTree) (slots : List Slot) → HasPrograms programs slots → HasPrograms (programs ++ []) slots
no_more programs slots has = subst (λ (ps : List ProgramTree). HasPrograms ps slots) (sym (append-nil programs)) has

start_by : (programs : List ProgramTree) (task : Task) (w : World) (none : Bool) → HasPrograms programs w.runners →
    HasPrograms (programs ++ cond none [] (task.program ∷ [])) (cond none (refused BadLimit w) (record {
      reply = Ok (Started (length w.runners + 1));
      next = record { standing = w.standing; runners = w.runners ++ Live (begin task) ∷ []; entries = w.entries };
    })).next.runners
start_by programs task w true has = no_more programs w.runners has
start_by programs task w false has = one_runner programs w.runners task has

start_has : (programs : List ProgramTree) (task : Task) (w : World) → HasPrograms programs w.runners →
    HasPrograms (programs ++ cond (nat_eq task.limit 0) [] (task.program ∷ [])) (start_runner task w).next.runners
unfolding start_runner
start_has programs task w has = start_by programs task w (nat_eq task.limit 0) has

event_has : (e : WorldEvent) (programs : List ProgramTree) (w : World) → is_step e ≡ false → HasPrograms programs w.runners →
    HasPrograms (programs ++ program_started e) (step e w).next.runners
event_has (Start program level limit) programs w none has = start_has programs (record { program = program; level = level; limit = limit }) w has
event_has (Step id) programs w none has = absurd (cc)
event_has _ programs w none has = no_more programs w.runners has

events_have : (es : List WorldEvent) (programs : List ProgramTree) (w : World) → HaveNoStep es → HasPrograms programs w.runners →
    HasPrograms (programs ++ programs_started es) (world_after es w).runners
events_have [] programs w none has = no_more programs w.runners has
events_have (e ∷ es) programs w none has =
    subst (λ (ps : List ProgramTree). HasPrograms ps (world_after (e ∷ es) w).runners) (append_assoc programs (program_started e) (programs_started es))
    (events_have es (programs ++ program_started e) (step e w).next none.1 (event_has e programs w none.0 has))

first_part : (first second : List WorldEvent) → HaveNoStep (first ++ second) → HaveNoStep first
first_part [] second none = tt
first_part (e ∷ first) second none = (none.0, first_part first second none.1)

none_at_first : HasPrograms [] []
none_at_first = record { count = refl; are = λ id r at. let none : runner_at id [] ≡ None = no_runner id in absurd (cc) }

pub started_are_those : StartedAreThose
started_are_those start events none =
    (events_have (up_to_last_start events) [] (opened start)
    (first_part (up_to_last_start events) (after_last_start events) (subst HaveNoStep (sym (scenarios_are_split.both events)) none)) none_at_first).are
