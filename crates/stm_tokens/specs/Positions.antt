-- Lines and columns of a source in UTF-8, both from 1, columns in characters.
use Rattle.std.specs.Prelude.{ℕ, ◌+◌, List, [], ◌∷◌, nat_eq, nat_le, nat_lt, ◌&&◌, if◌then◌else◌}

-- the line and the column after a byte: a line feed begins the next line, and a byte that continues a character takes no column
abbrev pub next : ℕ × ℕ → ℕ → ℕ × ℕ
next at b =
    if nat_eq b 10 then (at.0 + 1, 1)
    else (if nat_le 128 b && nat_lt b 192 then at else (at.0, at.1 + 1))

abbrev pub place_from : ℕ × ℕ → List ℕ → ℕ × ℕ
place_from at [] = at
place_from at (b ∷ bs) = place_from (next at b) bs

-- the line and the column after the bytes before it
abbrev pub place_after : List ℕ → ℕ × ℕ
place_after bytes = place_from (1, 1) bytes
