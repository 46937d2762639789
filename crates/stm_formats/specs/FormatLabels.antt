-- What a report calls runners: by the labels of a list, which are those of the runners 1, 2 and so on.
use Rattle.std.specs.Prelude.{ℕ, ◌-◌, List, [], ◌∷◌, nat_eq, nat_lt, nat_le, if◌then◌else◌, slice_get, Option, None, Some, codes, decimal}
use Rattle.stm_formats.specs.declared.format_label.RunnerLabel.{RunnerLabel}
use Rattle.stm_formats.specs.declared.format_label.TheConstants.{MOST_COLUMNS}
use Rattle.stm_formats.specs.FormatShown.{plain}
use Rattle.stm_formats.specs.FormatPieces.{joined}

abbrev pub label_of : List RunnerLabel → ℕ → Option RunnerLabel
label_of labels runner = if nat_eq runner 0 then None else slice_get labels (runner - 1)

abbrev pub name_in : Option RunnerLabel → Option (List ℕ)
name_in None = None
name_in (Some label) = label.name

-- the name of a runner, where it has one
abbrev pub name_of : List RunnerLabel → ℕ → Option (List ℕ)
name_of labels runner = name_in (label_of labels runner)

abbrev pub program_in : Option RunnerLabel → Option (List ℕ)
program_in None = None
program_in (Some label) = label.program

-- its program with the arguments, where the source names it
abbrev pub program_of : List RunnerLabel → ℕ → Option (List ℕ)
program_of labels runner = program_in (label_of labels runner)

abbrev pub named_runner : Option (List ℕ) → ℕ → List ℕ
named_runner None runner = joined (codes "runner " ∷ decimal runner ∷ [])
named_runner (Some name) runner = joined (plain name ∷ codes " (runner " ∷ decimal runner ∷ codes ")" ∷ [])

-- a runner, by its name and its number
abbrev pub runner_words : List RunnerLabel → ℕ → List ℕ
runner_words labels runner = named_runner (name_of labels runner) runner

-- the title of a column: 0 is the store's, and the last one is that of all high runners
abbrev pub title : List RunnerLabel → ℕ → List ℕ
title labels column =
    if nat_eq column 0 then codes "store" else (if nat_le MOST_COLUMNS column then codes "others" else runner_words labels column)

abbrev pub short_by : Option (List ℕ) → List ℕ → List ℕ
short_by None title = title
short_by (Some name) title = joined (plain name ∷ [])

-- the same without the number of a runner that has a name
abbrev pub short_title : List RunnerLabel → ℕ → List ℕ
short_title labels column = if nat_lt column MOST_COLUMNS then short_by (name_of labels column) (title labels column) else title labels column
