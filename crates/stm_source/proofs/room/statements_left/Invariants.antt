use Rattle.std.proofs.Common.{◌≡◌, drop}
use Rattle.stm_leaving.specs.PartsView.{sources_of}
use Rattle.stm_source.specs.Kept.{parts_left}
use Rattle.stm_source.proofs.room.statements_left.Given as goal

-- those that are left lead to all
abbrev pub invariant-loop-part : goal.invariant-loop-part
invariant-loop-part l = parts_left l.left (sources_of (drop l.part-index l.fn.parts)) ≡ parts_left l.fn.room (sources_of l.fn.parts)
