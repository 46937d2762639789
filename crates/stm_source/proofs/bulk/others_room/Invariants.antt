use Rattle.std.proofs.Common.{◌≡◌, drop}
use Rattle.stm_source.specs.Bulk.{others_left}
use Rattle.stm_source.proofs.bulk.others_room.Given as goal

-- those that are left lead to all
abbrev pub invariant-loop-look_up : goal.invariant-loop-look_up
invariant-loop-look_up l = others_left l.left (drop l.look_up-index l.fn.look_ups) ≡ others_left l.fn.room l.fn.look_ups
