-- The tree of copies, one after another.
use Rattle.std.specs.Prelude.{List, [], ◌∷◌}
use Rattle.stm_leaving.specs.Source.{Sources, Copies, NoCopy, Copy}

abbrev pub copies_of : List Sources → Copies
copies_of [] = NoCopy
copies_of (c ∷ cs) = Copy c (copies_of cs)
