use Rattle.std.proofs.Common.{◌≡◌, map, take}
use Rattle.stm_alike.specs.Seen.{seen_slot}
use Rattle.stm_retry.proofs.alike.are_slots_alike.Given as goal

abbrev pub invariant-loop-i : goal.invariant-loop-i
invariant-loop-i l = map seen_slot (take l.i l.left) ≡ map seen_slot (take l.i l.right)
