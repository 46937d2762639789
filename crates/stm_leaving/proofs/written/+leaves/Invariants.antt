use Rattle.std.proofs.Common.{◌≡◌, drop}
use Rattle.stm_leaving.specs.PartsView.{sources_of}
use Rattle.stm_leaving.specs.CopiesView.{copies_of}
use Rattle.stm_leaving.specs.Written.{leaves, copies_leave}
use Rattle.stm_leaving.proofs.written.+leaves.Given as goal

-- those that are left decide
abbrev pub invariant-leaves-loop-part : goal.invariant-leaves-loop-part
invariant-leaves-loop-part l = leaves (sources_of (drop l.part-index l.part-items)) ≡ leaves l.parts

abbrev pub invariant-copies_leave-loop-copy : goal.invariant-copies_leave-loop-copy
invariant-copies_leave-loop-copy l = copies_leave (copies_of (drop l.copy-index l.copy-items)) ≡ copies_leave l.copies
