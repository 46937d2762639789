use Rattle.std.proofs.Common.{◌≡◌, drop}
use Rattle.stm_leaving.specs.PartsView.{sources_of}
use Rattle.stm_leaving.specs.CopiesView.{copies_of}
use Rattle.stm_leaving.specs.Leaving.{keeps_to, keep_to}
use Rattle.stm_leaving.proofs.leaving.+leaving.Given as goal

-- those that are left decide
abbrev pub invariant-keeps_to-loop-part : goal.invariant-keeps_to-loop-part
invariant-keeps_to-loop-part l = keeps_to l.ways (sources_of (drop l.part-index l.part-items)) ≡ keeps_to l.ways l.parts

abbrev pub invariant-keep_to-loop-copy : goal.invariant-keep_to-loop-copy
invariant-keep_to-loop-copy l = keep_to l.ways (copies_of (drop l.copy-index l.copy-items)) ≡ keep_to l.ways l.copies
