-- What of a source is printed: its scenario, or the rule or program of a name.
use Rattle.std.specs.Prelude.{ℕ, List, [], map, Ok, string_bytes}
use Rattle.stm_terms.specs.Outcome.{Outcome, ◌>>=◌}
use Rattle.stm_compiling.specs.Notes.{notes_of}
use Rattle.stm_compiling.specs.Programs.{program_line_in, started, text_read}
use Rattle.stm_compiling.specs.Wholes.{compiled_in, rules_in}
use Rattle.stm_compiling.specs.declared.whole.Compiled.{Compiled}
use Rattle.stm_compiling.specs.declared.part.Part.{Part}
use Rattle.stm_compiling.specs.declared.part.Part.TheVariants as of
use Rattle.stm_compiling.specs.declared.part.Printed.{Printed}

-- the line of a scenario, and what is said of that for which it has no place
abbrev pub scenario_alone : Compiled → Printed
scenario_alone compiled = record { line = compiled.line; notes = notes_of compiled.beside.rules compiled.beside.waits }

-- the line of a rule or a program, beside which nothing is said
abbrev pub line_alone : List ℕ → Printed
line_alone line = record { line = line; notes = [] }

-- what is printed of a source's scenario, or its first fault
abbrev pub scenario_printed : List ℕ → Outcome Printed
scenario_printed source = compiled_in source >>= λ c. Ok (scenario_alone c)

-- what is printed of the rule or program of a name, with words as its arguments
abbrev pub program_printed : List ℕ → List ℕ → List (List ℕ) → Outcome Printed
program_printed source name words = program_line_in source name words >>= λ line. Ok (line_alone line)

abbrev pub printed_by : Part → List ℕ → Outcome Printed
printed_by of.Scenario source = scenario_printed source
printed_by (of.Program name words) source = program_printed source name.now (map string_bytes words.now)

-- the text in which its fault stands: the source, with the line that starts a program behind it where the source has no fault itself
abbrev pub text_by : Part → List ℕ → List ℕ
text_by of.Scenario source = source
text_by (of.Program name words) source = text_read (rules_in source) source (started source name.now (map string_bytes words.now))
