-- What a search through serial runs looks at.
use Rattle.std.specs.Prelude.{◌≡◌, ℕ, ◌-◌, nat_eq, Bool, true, false, if◌then◌else◌, List, [], ◌∷◌, ◌++◌, Option, Some, option_map, slice_get}
use Rattle.std.specs.List.{list_all}
use Rattle.stm_program.specs.Syntax.{ProgramTree}
use Rattle.stm_steps.specs.declared.run.Run.{Run}
use Rattle.stm_steps.specs.declared.run.Answered.TheVariants.{Ended}
use Rattle.stm_meaning.specs.Meaning.{run_over}
use Rattle.stm_txn.specs.Standing.{Standing}
use Rattle.stm_compile.specs.Answers.{state_now}
use Rattle.stm_events.specs.declared.event.WorldEvent.{WorldEvent}
use Rattle.stm_events.specs.declared.event.WorldEvent.TheVariants.{Start}
use Rattle.stm_world.specs.World.{World, Runner, Slot, Over, runner_at}
use Rattle.stm_schedules.specs.Keeping.{end_of, is_done}
use Rattle.stm_schedules.specs.declared.moves.Move.{Move}
use Rattle.stm_schedules.specs.Places.{Place}
use Rattle.stm_serial.specs.Serial.{alone, Point, point_of, serial_moved, serial_after, IsSerial, first_bad_serial, after_foreign}

-- the rule that a program is, of a store
abbrev pub keeps_store : ProgramTree → Standing → Bool
keeps_store rule s = is_done (end_of (run_over (state_now s.history) rule.statements))

-- each of these is kept
abbrev pub keeps_all : List ProgramTree → Standing → Bool
keeps_all rules s = list_all (λ (rule : ProgramTree). keeps_store rule s) rules

-- the same of a world
abbrev pub keep_all : List ProgramTree → World → Bool
keep_all rules w = keeps_all rules w.standing

abbrev pub is_done_run : Run → Bool
is_done_run run = is_done (Some run.end)

-- the places of runners, those over that were run
abbrev pub marked : List Bool → List Slot → List Slot
marked [] slots = slots
marked (b ∷ taken) [] = []
marked (true ∷ taken) (slot ∷ slots) = Over ∷ marked taken slots
marked (false ∷ taken) (slot ∷ slots) = slot ∷ marked taken slots

-- the point that a world is at, whose own runners have made no step, once these were run
abbrev pub point : World → List Bool → List WorldEvent → Point
point w taken others = record { standing = w.standing; runners = marked taken w.runners; others = others }

-- ---- programs by the runners' numbers

-- these are the programs of the runners that have not ended, by their numbers
abbrev pub AreProgramsOf : List ProgramTree → List Slot → Type 0
AreProgramsOf programs slots = (id : ℕ) (r : Runner) → runner_at id slots ≡ Some r → slice_get programs (id - 1) ≡ Some r.task.program

-- the program that an event starts, where it starts one: a run that may send no commit is refused
abbrev pub program_started : WorldEvent → List ProgramTree
program_started (Start program level limit) = if nat_eq limit 0 then [] else program ∷ []
program_started event = []

-- the programs that events start, in their order
abbrev pub programs_started : List WorldEvent → List ProgramTree
programs_started [] = []
programs_started (e ∷ es) = program_started e ++ programs_started es

-- what a run alone on this store leaves of it
abbrev pub IsLeftBy : Run → Standing → Standing → Type 0
IsLeftBy run before after =
    (program : ProgramTree) → run_over (state_now before.history) program.statements ≡ Ended run → after ≡ alone program before

-- ---- the search

-- what is found after a move, as it is found before it
abbrev pub in_front : Move → Option (List Move) → Option (List Move)
in_front m found = option_map (λ (ms : List Move). m ∷ ms) found

abbrev pub found_after : (Standing → Bool) → ℕ → Point → Move → Option (List Move)
found_after keep n q m = in_front m (first_bad_serial keep n (serial_moved m q))

-- the first of these events leaves this of a store
abbrev pub LeavesFirst : List WorldEvent → Standing → Standing → Type 0
LeavesFirst [] before after = ⊥
LeavesFirst (e ∷ es) before after = after ≡ after_foreign e before

-- no runner was run
abbrev pub AreNone : List Bool → Type 0
AreNone [] = Unit {0}
AreNone (b ∷ taken) = (b ≡ false) × AreNone taken

-- a serial run after which one of these rules is not kept
pub record IsBadRun (rules : List ProgramTree) (p : Place) (run : List Move) : Type 0 where
  pub is_serial : IsSerial run (point_of p)
  pub is_bad : keeps_all rules (serial_after run (point_of p)).standing ≡ false
