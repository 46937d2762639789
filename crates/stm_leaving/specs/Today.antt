-- The statements of a program as a source.
use Rattle.std.specs.Prelude.{◌≡◌}
use Rattle.stm_program.specs.Syntax.{Statement, Block, Set, Put, Del, If, For, Emit, Abort, End, Then}
use Rattle.stm_leaving.specs.Source.{Source, Sources, Plain, Choice, Count, Nil, Next}
use Rattle.stm_leaving.specs.Closed.{nothing, closed}

unfoldable mutual
  pub of_block : Block → Sources
  of_block End = Nil
  of_block (Then first rest) = Next (of_statement first) (of_block rest)

  pub of_statement : Statement → Source
  of_statement (Set v e) = Plain (Set v e)
  of_statement (Put e f lease) = Plain (Put e f lease)
  of_statement (Del e) = Plain (Del e)
  of_statement (If c a b) = Choice c (of_block a) (of_block b)
  of_statement (For v e limit body) = Count v e limit (of_block body)
  of_statement (Emit e) = Plain (Emit e)
  of_statement (Abort e) = Plain (Abort e)

-- each program is that of a source: one that leaves nothing is itself
abbrev pub ProgramsAreTheirOwn : Type 0
ProgramsAreTheirOwn = (program : Block) → closed (of_block program) nothing ≡ program
