-- The names of what makes a line wrong.
use Rattle.std.specs.Prelude.{ℕ, List, codes}
use Rattle.stm_check.specs.declared.cause.WrongCause.{WrongCause}
use Rattle.stm_check.specs.declared.cause.WrongCause.TheVariants.{Count, Event, Replay, Final}

abbrev pub cause_name : WrongCause → List ℕ
cause_name Count = codes "Count"
cause_name Event = codes "Event"
cause_name Replay = codes "Replay"
cause_name Final = codes "Final"
