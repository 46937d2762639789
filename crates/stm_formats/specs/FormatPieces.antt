-- The text of pieces.
use Rattle.std.specs.Prelude.{ℕ, ◌-◌, List, [], ◌∷◌, ◌++◌, length, nat_lt, if◌then◌else◌, codes, decimal, replicate}
use Rattle.stm_formats.specs.declared.format_row.Lane.{Lane}
use Rattle.stm_formats.specs.declared.format_row.Lane.TheVariants.{Store, Runner}
use Rattle.stm_formats.specs.declared.format_label.TheConstants.{MOST_COLUMNS}
use Rattle.stm_formats.specs.declared.format_pieces.Piece.{Piece}
use Rattle.stm_formats.specs.declared.format_pieces.Piece.TheVariants.{Say, Key, Shown, Source, Number, Padded, Spaces, Tag, Raw, Escaped}
use Rattle.stm_formats.specs.FormatShown.{plain, shown, source_shown}
use Rattle.stm_formats.specs.FormatEscaped.{escaped}

-- one text after the other
abbrev pub joined : List (List ℕ) → List ℕ
joined [] = []
joined (t ∷ ts) = t ++ joined ts

-- a number in six characters, unless it has more digits
abbrev pub padded : ℕ → List ℕ
padded n = replicate (6 - length (decimal n)) 32 ++ decimal n

-- the number of a runner that shares the last column
abbrev pub tag_text : Lane → List ℕ
tag_text Store = []
tag_text (Runner runner) = if nat_lt runner MOST_COLUMNS then [] else decimal runner ++ codes ": "

abbrev pub piece_text : Piece → List ℕ
piece_text (Say text) = text.now
piece_text (Key text) = plain text.now
piece_text (Shown most text) = shown most text.now
piece_text (Source most text) = source_shown most text.now
piece_text (Number number) = decimal number
piece_text (Padded number) = padded number
piece_text (Spaces count) = replicate count 32
piece_text (Tag lane) = tag_text lane
piece_text (Raw bytes) = bytes.now
piece_text (Escaped bytes) = escaped bytes.now
