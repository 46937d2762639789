-- What is left of the lines of a checkpoint, once some were taken. No public clause cites this module.
use Rattle.std.specs.Prelude.{◌++◌, List, [], ◌∷◌, Option, None, Some, option_map}
use Rattle.stm_events.specs.declared.line.ReportLine.{ReportLine}
use Rattle.stm_txn.specs.declared.restored.KeptLease.{KeptLease}
use Rattle.stm_lasting.specs.declared.checkpoint_text.Held.{Held as Taken}
use Rattle.stm_lasting.specs.declared.checkpoint_text.Stage.{Stage}
use Rattle.stm_lasting.specs.declared.checkpoint_text.Stage.TheVariants.{Keys, Leases, Ended}
use Rattle.stm_lasting.specs.CheckpointText.{Held, held_in, leases_in}

abbrev pub with_leases : List KeptLease → Held
with_leases leases = record { states = []; leases = leases }

-- what the lines say that are left
abbrev pub left_in : Stage → List ReportLine → Option Held
left_in Keys lines = held_in lines
left_in Leases lines = option_map with_leases (leases_in lines)
left_in Ended [] = Some (with_leases [])
left_in Ended (line ∷ lines) = None

-- the same, where one of the lines may have been out of place
abbrev pub left_of : Option Stage → List ReportLine → Option Held
left_of None lines = None
left_of (Some stage) lines = left_in stage lines

-- what was taken, and behind it what is left
abbrev pub joined : Taken → Held → Held
joined taken left = record { states = taken.states.items ++ left.states; leases = taken.leases.items ++ left.leases }

-- what was taken, where nothing is left
abbrev pub said : Taken → Held
said taken = record { states = taken.states.items; leases = taken.leases.items }
