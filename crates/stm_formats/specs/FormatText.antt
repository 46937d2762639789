-- A report as text: a header with the titles of the columns, a row for each event, and after an empty line what is left.
use Rattle.std.specs.Prelude.{ℕ, Option, ◌+◌, ◌-◌, zero, suc, List, [], ◌∷◌, ◌++◌, length, map, max, codes, decimal, replicate, nat_le, if◌then◌else◌}
use Rattle.stm_formats.specs.declared.format_label.RunnerLabel.{RunnerLabel}
use Rattle.stm_formats.specs.declared.format_row.Row.{Row}
use Rattle.stm_formats.specs.declared.format_text.TheConstants.{LEAST_SPACE}
use Rattle.stm_formats.specs.FormatPieces.{joined, padded, tag_text}
use Rattle.stm_formats.specs.FormatLabels.{title, short_title}
use Rattle.stm_formats.specs.FormatWrap.{fitted_words}
use Rattle.stm_formats.specs.FormatColumns.{column, last_column, most_width, all_places, place}

abbrev pub spaces : ℕ → List ℕ
spaces n = replicate n 32

-- the title of a runner's column, after the spaces that are left of the column before it, which has this title
abbrev pub titled : List ℕ → ℕ → List ℕ → List ℕ → List ℕ
titled places k before words = joined (spaces (max (place places k - place places (k - 1) - length before) LEAST_SPACE) ∷ words ∷ [])

-- how many characters a column has for its title
abbrev pub room : List ℕ → ℕ → ℕ
room places k = place places (k + 1) - place places k - LEAST_SPACE

-- the title of a column, in its short form where the whole one is too long for the column, or its number alone
abbrev pub fitted : List RunnerLabel → List ℕ → ℕ → List ℕ
fitted labels places k =
    if nat_le (length (title labels k)) (room places k) then title labels k
    else (if nat_le (length (short_title labels k)) (room places k) then short_title labels k else decimal k)

abbrev pub heading : List RunnerLabel → List ℕ → ℕ → List ℕ
heading labels places k = titled places k (fitted labels places (k - 1)) (fitted labels places k)

-- those of the columns 1 to k, one after the other
abbrev pub headings : List RunnerLabel → List ℕ → ℕ → List ℕ
headings labels places zero = []
headings labels places (suc k) = headings labels places k ++ heading labels places (suc k)

-- a row: its number, and its words in its column, in further lines where the width has no room for them
abbrev pub row_text : Option ℕ → List ℕ → Row → List ℕ
row_text width places row =
    joined (padded row.number ∷ spaces (2 + place places (column row.lane))
    ∷ fitted_words width (2 + place places (column row.lane) + 6) (joined (tag_text row.lane ∷ row.words ∷ [])) ∷ codes "\n" ∷ [])

abbrev pub rows_text : Option ℕ → List ℕ → List Row → List ℕ
rows_text width places rows = joined (map (row_text width places) rows)

abbrev pub note_text : List ℕ → List ℕ
note_text note = joined (note ∷ codes "\n" ∷ [])

abbrev pub notes_text : List (List ℕ) → List ℕ
notes_text notes = joined (map note_text notes)

-- with columns that are as wide as a limit at most
abbrev pub text_in : Option ℕ → ℕ → List RunnerLabel → List Row → List (List ℕ) → List ℕ
text_in width limit labels rows notes =
    joined (codes " event  store" ∷ headings labels (all_places limit labels rows) (last_column rows) ∷ codes "\n"
    ∷ rows_text width (all_places limit labels rows) rows ∷ codes "\n" ∷ notes_text notes ∷ [])

-- the text of a width
abbrev pub text_of : Option ℕ → List RunnerLabel → List Row → List (List ℕ) → List ℕ
text_of width labels rows notes = text_in width (most_width width (last_column rows)) labels rows notes
