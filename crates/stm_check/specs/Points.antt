-- The point that the code has come to, as the definitions have it.
use Rattle.stm_check.specs.declared.point.Point.{Point as Kept}
use Rattle.stm_check.specs.Point.{Point}

abbrev pub point_of : Kept → Point
point_of p = record { standing = p.store.standing; entries = p.entries; runners = p.runners.items }
