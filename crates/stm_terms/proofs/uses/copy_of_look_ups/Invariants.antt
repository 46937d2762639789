use Rattle.std.proofs.Common.{◌≡◌, take}
use Rattle.stm_terms.proofs.uses.copy_of_look_ups.Given as goal

-- the look-ups so far are copied
abbrev pub invariant-loop-look_up : goal.invariant-loop-look_up
invariant-loop-look_up l = l.copy ≡ take l.look_up-index l.look_ups
