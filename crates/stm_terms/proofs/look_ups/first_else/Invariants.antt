use Rattle.std.proofs.Common.{◌≡◌, drop}
use Rattle.stm_terms.specs.LookUps.{first_else}
use Rattle.stm_terms.proofs.look_ups.first_else.Given as goal

-- none of the look-ups so far has an `else`
abbrev pub invariant-loop-look_up : goal.invariant-loop-look_up
invariant-loop-look_up l = first_else l.look_ups ≡ first_else (drop l.look_up-index l.look_ups)
