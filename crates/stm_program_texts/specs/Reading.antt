-- The program that bytes spell.
use Rattle.std.specs.Prelude.{ℕ, List, length, nat_lt, if◌then◌else◌, Option, Some, None}
use Rattle.serde_json.specs.Data.{Data}
use Rattle.stm_json.specs.Bytes.{data_of}
use Rattle.stm_json.specs.Outcome.{Outcome, bad}
use Rattle.stm_json.specs.declared.cause.Cause.TheVariants.{NotJson, TooLong}
use Rattle.stm_json.specs.declared.limits.TheConstants.{MOST_BYTES}
use Rattle.stm_program.specs.Syntax.{ProgramTree}
use Rattle.stm_program_json.specs.Reading.{program_of}

abbrev pub program_read : Option Data → Outcome ProgramTree
program_read None = bad NotJson
program_read (Some d) = program_of d

-- the program of bytes, or their first fault: their number comes first, and then whether they are JSON
unfoldable pub program_in : List ℕ → Outcome ProgramTree
program_in bytes = if nat_lt MOST_BYTES (length bytes) then bad TooLong else program_read (data_of bytes)
