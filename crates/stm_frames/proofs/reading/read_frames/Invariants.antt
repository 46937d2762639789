use Rattle.std.proofs.Common.{◌≡◌, ◌≤◌, ◌-◌, length, take}
use Rattle.stm_frames.specs.Frame.{log, at_places}
use Rattle.stm_frames.proofs.reading.read_frames.Given as goal

abbrev pub invariant-loop-len : goal.invariant-loop-len
invariant-loop-len l = record { room : l.end ≤ length l.bytes; frames : take l.end l.bytes ≡ log 0 (at_places l.bytes l.payloads.items) }

abbrev pub decreases-loop-len : goal.decreases-loop-len
decreases-loop-len l = length l.bytes - l.end
