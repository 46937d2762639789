use Rattle.std.proofs.Common.{◌≡◌, drop}
use Rattle.stm_source.specs.Bulk.{compares_left}
use Rattle.stm_source.proofs.bulk.compares_room.Given as goal

-- those that are left lead to all
abbrev pub invariant-loop-compare : goal.invariant-loop-compare
invariant-loop-compare l = compares_left l.left (drop l.compare-index l.fn.compares) ≡ compares_left l.fn.room l.fn.compares
