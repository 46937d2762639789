-- How a program is printed.
use Rattle.std.specs.Prelude.{ℕ, List, [], ◌∷◌, ◌++◌, map, codes}
use Rattle.json.specs.Print.{quoted}
use Rattle.stm_program.specs.Syntax.{ProgramTree}
use Rattle.stm_program_source.specs.Texts.{separated, call, braced}
use Rattle.stm_program_source.specs.Statements.{shown_statements}

-- the list stands first, where it has keys
abbrev pub shown_list : List (List ℕ) → List (List ℕ)
shown_list [] = []
shown_list (key ∷ keys) = call (codes "prefetch") (separated (codes ", ") (map quoted (key ∷ keys))) ∷ []

-- a program as the body of a start
abbrev pub shown_body : ProgramTree → List ℕ
shown_body p = braced 0 (shown_list p.prefetch ++ shown_statements 1 p.statements)

-- the source of a program alone
abbrev pub shown_program : ProgramTree → List ℕ
shown_program p = shown_body p ++ codes "\n"
