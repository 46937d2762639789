use Rattle.std.proofs.Common.{◌≡◌, drop}
use Rattle.stm_leaving.specs.PartsView.{sources_of}
use Rattle.stm_leaving.specs.CopiesView.{copies_of}
use Rattle.stm_source.specs.Kept.{parts_left, copies_left}
use Rattle.stm_source.proofs.room.+left.Given as goal

-- those that are left lead to all
abbrev pub invariant-parts_left-loop-part : goal.invariant-parts_left-loop-part
invariant-parts_left-loop-part l = parts_left l.left (sources_of (drop l.part-index l.part-items)) ≡ parts_left l.fn.room l.parts

abbrev pub invariant-copies_left-loop-copy : goal.invariant-copies_left-loop-copy
invariant-copies_left-loop-copy l = copies_left l.left (copies_of (drop l.copy-index l.copy-items)) ≡ copies_left l.fn.room l.copies
