-- A block that is kept with the statements that it begins with in front, the first of these last.
use Rattle.std.specs.Prelude.{List, [], ◌∷◌}
use Rattle.stm_program.specs.Syntax.{Statement, Block, Then}

abbrev pub turned : List Statement → Block → Block
turned [] after = after
turned (s ∷ ss) after = turned ss (Then s after)
