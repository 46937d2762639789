-- A call of the file system with its answer.
use Rattle.std.specs.Prelude.{ℕ, Bool, List, map, reverse}
use Rattle.stm_file_disk.specs.declared.call.Act.{Act}
use Rattle.stm_file_disk.specs.declared.call.Call.{Call}

-- what was asked for, an offset or a length, whether it succeeded, and bytes
abbrev pub Event : Type 0
Event = Act × ℕ × Bool × List ℕ

abbrev pub event_of : Call → Event
event_of call = (call.act, call.at, call.is_done, call.bytes.items)

-- the newest first
abbrev pub events_of : List Call → List Event
events_of calls = map event_of (reverse calls)
