-- Whether a number is in range, as the definitions test it and as the calls of the library say it.
use Rattle.std.proofs.Common.{◌≡◌, true, rules}
use Rattle.std.specs.Prelude.{ℤ, pos, negsuc, FitsSigned}
use mir.Syntax.{w64}
use Rattle.stm_steps.specs.Values.{is_in_range}

pub in_range : (z : ℤ) → FitsSigned w64 z → is_in_range z ≡ true
in_range (pos n) h = search rules
in_range (negsuc n) h = search rules
