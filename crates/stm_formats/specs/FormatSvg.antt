-- A report as a picture: a line down for each column, and for each event a mark on the line of its column with its words.
--
-- The W3C's "Scalable Vector Graphics (SVG) 1.1", "Basic Shapes" and "Text". A row is 1000 units high: its middle is its number and three zeros.
use Rattle.std.specs.Prelude.{ℕ, ◌+◌, ◌*◌, ◌^◌, ◌-◌, min, max, zero, suc, List, [], ◌∷◌, ◌++◌, length, map, codes, decimal}
use Rattle.stm_formats.specs.declared.format_label.RunnerLabel.{RunnerLabel}
use Rattle.stm_formats.specs.declared.format_row.Lane.{Lane}
use Rattle.stm_formats.specs.declared.format_row.Mark.{Mark}
use Rattle.stm_formats.specs.declared.format_row.Mark.TheVariants.{Committed, Failed, Plain}
use Rattle.stm_formats.specs.declared.format_row.Row.{Row}
use Rattle.stm_formats.specs.FormatPieces.{joined, tag_text}
use Rattle.stm_formats.specs.FormatLabels.{title}
use Rattle.stm_formats.specs.FormatEscaped.{escaped}
use Rattle.stm_formats.specs.FormatColumns.{column, last_column, all_places, place}
use Rattle.stm_formats.specs.declared.format_columns.TheConstants.{MOST_WIDTH}
use Rattle.stm_formats.specs.declared.format_svg.TheConstants.{MOST_LETTERS}

-- where a column's line stands: a letter is 360 units wide
abbrev pub line_at : List ℕ → ℕ → ℕ
line_at places c = 3500 + 360 * place places c + 780 * c

-- how far words go: of very long ones the rest is cut off
abbrev pub letters : List ℕ → ℕ
letters words = 360 * min (length words) MOST_LETTERS

-- how far rows and notes go to the right
abbrev pub rows_reach : List ℕ → List Row → ℕ
rows_reach places [] = 0
rows_reach places (row ∷ rows) = max (line_at places (column row.lane) + letters row.words + 1500) (rows_reach places rows)

abbrev pub notes_reach : List (List ℕ) → ℕ
notes_reach [] = 0
notes_reach (note ∷ notes) = max (letters note + 2000) (notes_reach notes)

-- how wide the picture is
abbrev pub across : List ℕ → List Row → List (List ℕ) → ℕ
across places rows notes = max (line_at places (last_column rows + 1)) (max (rows_reach places rows) (notes_reach notes))

-- how a mark is drawn, and the colour of its words
abbrev pub shape : Mark → List ℕ
shape Committed = codes "r=\"300\" fill=\"#1a7f37\""
shape Failed = codes "r=\"240\" fill=\"#ffffff\" stroke=\"#cf222e\" stroke-width=\"120\""
shape Plain = codes "r=\"160\" fill=\"#8c959f\""

abbrev pub colour : Mark → List ℕ
colour Committed = codes "#1a7f37"
colour Failed = codes "#cf222e"
colour Plain = codes "#24292f"

-- ---- a column, with that many rows

unfoldable pub column_svg : List RunnerLabel → List ℕ → ℕ → ℕ → List ℕ
column_svg labels places rows c =
    joined (codes "<line x1=\"" ∷ decimal (line_at places c) ∷ codes "\" y1=\"400\" x2=\"" ∷ decimal (line_at places c)
    ∷ codes "\" y2=\"" ∷ decimal rows ∷ codes "500\" stroke=\"#d0d7de\" stroke-width=\"60\"/>\n<text x=\"" ∷ decimal (line_at places c)
    ∷ codes "\" y=\"0\" dy=\"210\" text-anchor=\"middle\" fill=\"#24292f\" font-weight=\"bold\">" ∷ escaped (title labels c) ∷ codes "</text>\n" ∷ [])

-- the columns before c
abbrev pub columns_svg : List RunnerLabel → List ℕ → ℕ → ℕ → List ℕ
columns_svg labels places rows zero = []
columns_svg labels places rows (suc c) = columns_svg labels places rows c ++ column_svg labels places rows c

-- ---- a row

-- a row whose mark stands at x: its number, how the mark is drawn, the colour of the words, and these
unfoldable pub placed_svg : ℕ → ℕ → List ℕ → List ℕ → Lane → List ℕ → List ℕ
placed_svg x n drawn colour lane words =
    joined (codes "<text x=\"2400\" y=\"" ∷ decimal n ∷ codes "000\" dy=\"210\" text-anchor=\"end\" fill=\"#57606a\">" ∷ decimal n
    ∷ codes "</text>\n<circle cx=\"" ∷ decimal x ∷ codes "\" cy=\"" ∷ decimal n ∷ codes "000\" " ∷ drawn
    ∷ codes "/>\n<text x=\"" ∷ decimal (x + 500) ∷ codes "\" y=\"" ∷ decimal n ∷ codes "000\" dy=\"210\" fill=\""
    ∷ colour ∷ codes "\">" ∷ tag_text lane ∷ escaped words ∷ codes "</text>\n" ∷ [])

abbrev pub row_svg : List ℕ → Row → List ℕ
row_svg places row = placed_svg (line_at places (column row.lane)) row.number (shape row.mark) (colour row.mark) row.lane row.words

abbrev pub rows_svg : List ℕ → List Row → List ℕ
rows_svg places rows = joined (map (row_svg places) rows)

-- ---- a note, below the rows

unfoldable pub note_svg : ℕ → List ℕ → List ℕ
note_svg n note =
    joined (codes "<text x=\"1000\" y=\"" ∷ decimal n ∷ codes "000\" dy=\"210\" fill=\"#24292f\">" ∷ escaped note ∷ codes "</text>\n" ∷ [])

-- those of these notes, numbered from n
abbrev pub notes_svg : ℕ → List (List ℕ) → List ℕ
notes_svg n [] = []
notes_svg n (note ∷ notes) = note_svg n note ++ notes_svg (suc n) notes

-- ---- the whole

-- a number, as far as one of 64 bits goes
abbrev pub at_most : ℕ → ℕ
at_most n = min n (2 ^ 64 - 1)

-- how many lines the picture has with its titles
abbrev pub lines_of : List Row → List (List ℕ) → ℕ
lines_of rows notes = at_most (at_most (length rows + length notes) + 1)

-- the picture's frame, of that width and that many lines
unfoldable pub frame_svg : ℕ → ℕ → List ℕ
frame_svg across lines =
    joined (codes "<svg xmlns=\"http://www.w3.org/2000/svg\" viewBox=\"0 -700 " ∷ decimal across ∷ codes " " ∷ decimal lines
    ∷ codes "400\" font-family=\"monospace\" font-size=\"600\">\n<rect x=\"0\" y=\"-700\" width=\"" ∷ decimal across ∷ codes "\" height=\"" ∷ decimal lines
    ∷ codes "400\" rx=\"300\" fill=\"#ffffff\"/>\n" ∷ [])

unfoldable pub under_svg : ℕ → List ℕ
under_svg rows = joined (codes "<g transform=\"translate(0 " ∷ decimal rows ∷ codes "300)\">\n" ∷ [])

unfoldable pub svg_of : List RunnerLabel → List Row → List (List ℕ) → List ℕ
svg_of labels rows notes =
    joined (frame_svg (across (all_places MOST_WIDTH labels rows) rows notes) (lines_of rows notes) ∷ columns_svg labels (all_places MOST_WIDTH labels rows) (length rows) (last_column rows + 1)
    ∷ rows_svg (all_places MOST_WIDTH labels rows) rows
    ∷ under_svg (length rows) ∷ notes_svg 1 notes ∷ codes "</g>\n</svg>\n" ∷ [])
