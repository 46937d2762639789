-- What holds of two states, of which the second is as the first was.
use Rattle.std.specs.Prelude.{◌≡◌}
use mathlib.Core.Path.{subst}

-- what begins at the second one begins at the first
pub from_before : {S : Type 0} (P : S → Type 0) (before after : S) → after ≡ before → P after → P before
from_before P before after same held = subst P same held
