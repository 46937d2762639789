-- What a program writes: the keys that it puts, each with its lease, and those that it deletes, by their spelling.
use Rattle.std.specs.Prelude.{List, [], ◌∷◌, ◌++◌}
use Rattle.stm_program.specs.Syntax.{Statement, Set, Put, Del, If, For, Emit, Abort, Block, End, Then, ProgramTree}
use Rattle.stm_named_keys.specs.Named.{named}
use Rattle.stm_named_keys.specs.declared.written.Written.{Written}

-- what statements write, in the order in which they are written; a deletion names no lease
abbrev mutual
  pub written_in_statement : Statement → List Written
  written_in_statement (Set v e) = []
  written_in_statement (Put k e l) = record { key = named k; lease = l } ∷ []
  written_in_statement (Del k) = record { key = named k; lease = 0 } ∷ []
  written_in_statement (If c t e) = written_in_block t ++ written_in_block e
  written_in_statement (For v e n b) = written_in_block b
  written_in_statement (Emit e) = []
  written_in_statement (Abort e) = []

  pub written_in_block : Block → List Written
  written_in_block End = []
  written_in_block (Then s b) = written_in_statement s ++ written_in_block b

-- what a program writes
abbrev pub written : ProgramTree → List Written
written p = written_in_block p.statements
