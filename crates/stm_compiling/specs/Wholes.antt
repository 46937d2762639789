-- A source that is compiled: its scenario as a line of JSON, and what JSON has no place for.
use Rattle.std.specs.Prelude.{ℕ, List, [], Ok}
use Rattle.stm_report_lines.specs.Text.{line_text}
use Rattle.stm_texts.specs.Writing.{written_scenario}
use Rattle.stm_terms.specs.Outcome.{Outcome, ◌>>=◌}
use Rattle.stm_source.specs.Sources.{source_in}
use Rattle.stm_source.specs.declared.sources.Source.{Source}
use Rattle.stm_source.specs.declared.story.Rule.{Rule}
use Rattle.stm_compiling.specs.declared.whole.Beside.{Beside}
use Rattle.stm_compiling.specs.declared.whole.Compiled.{Compiled}

abbrev pub nothing : Beside
nothing = record { rules = []; waits = []; names = []; numbers = [] }

-- a source with its scenario as one line of compact JSON, in its one spelling
abbrev pub compiled_of : Source → Compiled
compiled_of source = record {
  line = line_text (written_scenario source.scenario);
  beside = record { rules = source.rules; waits = source.waits; names = source.names; numbers = source.numbers };
}

-- what bytes come to, or their first fault
abbrev pub compiled_in : List ℕ → Outcome Compiled
compiled_in source = source_in source >>= λ s. Ok (compiled_of s)

-- the rules and finals of a source, or its first fault
abbrev pub rules_in : List ℕ → Outcome (List Rule)
rules_in source = source_in source >>= λ s. Ok s.rules
