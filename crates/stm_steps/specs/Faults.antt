-- The names of the faults, as the formats have them.
use Rattle.std.specs.Prelude.{ℕ, List, codes}
use Rattle.stm_steps.specs.declared.fault.Fault.{Fault}
use Rattle.stm_steps.specs.declared.fault.Fault.TheVariants.{Kind, Overflow, ZeroDivisor, NotANumber, LoopTooLong, TurnLimit, TextTooLong, EmptyKey}

abbrev pub fault_name : Fault → List ℕ
fault_name Kind = codes "Kind"
fault_name Overflow = codes "Overflow"
fault_name ZeroDivisor = codes "ZeroDivisor"
fault_name NotANumber = codes "NotANumber"
fault_name LoopTooLong = codes "LoopTooLong"
fault_name TurnLimit = codes "TurnLimit"
fault_name TextTooLong = codes "TextTooLong"
fault_name EmptyKey = codes "EmptyKey"
