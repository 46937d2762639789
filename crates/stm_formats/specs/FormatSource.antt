-- Sources in a row: the first line of a program, and what a transaction compares, as `stmrun show` prints them.
use Rattle.std.specs.Prelude.{ℕ, List, [], ◌∷◌, ◌++◌, ◌&&◌, ◌||◌, nat_eq, if◌then◌else◌, codes}
use Rattle.stm_program.specs.Syntax.{ProgramTree}
use Rattle.stm_outcome.specs.declared.txn.Compare.{Compare}
use Rattle.stm_program_source.specs.Program.{shown_body}
use Rattle.stm_show.specs.Transactions.{shown_compares}
use Rattle.stm_formats.specs.FormatShown.{source_shown}
use Rattle.stm_formats.specs.FormatPieces.{joined}

-- where a byte stands, by where the one before it stood: in the first line (0), in the indentation of the second (1), in the second (2), behind it (3)
abbrev pub stage_after : ℕ → ℕ → ℕ
stage_after stage b =
    if nat_eq stage 0 then (if nat_eq b 10 then 1 else 0)
    else (if nat_eq stage 1 && nat_eq b 32 then 1 else (if nat_eq b 10 || nat_eq stage 3 then 3 else 2))

abbrev pub stage_bytes : ℕ → ℕ → List ℕ
stage_bytes stage b = if nat_eq stage 2 then b ∷ [] else []

-- the bytes of the second line, without its indentation
abbrev pub line_after : ℕ → List ℕ → List ℕ
line_after stage [] = []
line_after stage (b ∷ bs) = stage_bytes (stage_after stage b) b ++ line_after (stage_after stage b) bs

-- a source, after two spaces, where there is one
abbrev pub source_words : ℕ → List ℕ → List ℕ
source_words most [] = []
source_words most (b ∷ bs) = joined (codes "  " ∷ source_shown most (b ∷ bs) ∷ [])

-- the first line within a program's braces
abbrev pub program_words : ℕ → ProgramTree → List ℕ
program_words most p = source_words most (line_after 0 (shown_body p))

-- what a transaction compares, with a space behind it, where it compares something
abbrev pub compare_words : ℕ → List Compare → List ℕ
compare_words most compares = joined (source_shown most (shown_compares compares) ∷ [])
