use Rattle.std.proofs.Common.{◌≡◌, drop}
use Rattle.stm_terms.specs.Uses.{others_are_texts}
use Rattle.stm_terms.proofs.uses.others_are_texts.Given as goal

-- the look-ups that are left decide
abbrev pub invariant-loop-look_up : goal.invariant-loop-look_up
invariant-loop-look_up l = others_are_texts l.arguments l.look_ups ≡ others_are_texts l.arguments (drop l.look_up-index l.look_ups)
