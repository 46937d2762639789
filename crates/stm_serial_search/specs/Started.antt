-- The programs of a scenario's runners, where its schedules begin.
use Rattle.std.specs.Prelude.{◌≡◌, Bool, true, false, List, [], ◌∷◌}
use Rattle.stm_events.specs.declared.event.WorldEvent.{WorldEvent}
use Rattle.stm_events.specs.declared.event.WorldEvent.TheVariants.{Step}
use Rattle.stm_txn.specs.Standing.{Setup}
use Rattle.stm_schedules.specs.Scenarios.{begun, up_to_last_start}
use Rattle.stm_serial_search.specs.Search.{AreProgramsOf, programs_started}

abbrev pub is_step : WorldEvent → Bool
is_step (Step runner) = true
is_step other = false

abbrev pub HaveNoStep : List WorldEvent → Type 0
HaveNoStep [] = Unit {0}
HaveNoStep (e ∷ es) = (is_step e ≡ false) × HaveNoStep es

-- the programs that are started before the schedules of a scenario without steps begin are those of its runners
abbrev pub StartedAreThose : Type 0
StartedAreThose =
    (start : Setup) (events : List WorldEvent) → HaveNoStep events → AreProgramsOf (programs_started (up_to_last_start events)) (begun start events).world.runners
