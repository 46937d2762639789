-- How bytes are cut into lines.
use Rattle.std.specs.Prelude.{◌≡◌, ℕ, ◌<◌, List, [], ◌∷◌, length, Bool, Option, Some, None, ◌==◌}
use Rattle.std.specs.List.{slice_split}

abbrev pub is_line_feed : ℕ → Bool
is_line_feed b = b == 10

-- the parts that line feeds cut bytes into: one more than there are line feeds
abbrev pub parts_of : List ℕ → List (List ℕ)
parts_of bytes = slice_split is_line_feed bytes

-- bytes cut at their first line feed: the first part, and the bytes whose parts are the others; none, where there is one part
abbrev pub IsCut : List ℕ → Option (List ℕ × List ℕ) → Type 0
IsCut bytes None = parts_of bytes ≡ bytes ∷ []
IsCut bytes (Some p) = (parts_of bytes ≡ p.0 ∷ parts_of p.1) × (length p.1 < length bytes)
