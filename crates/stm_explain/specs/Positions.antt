-- Lines and columns of a text.
use Rattle.std.specs.Prelude.{ℕ, ◌+◌, List, [], ◌∷◌, nat_eq, if◌then◌else◌}

-- the line and the column after a byte: a line feed begins the next line, any other byte takes a column
abbrev pub next : ℕ × ℕ → ℕ → ℕ × ℕ
next at b = if nat_eq b 10 then (at.0 + 1, 1) else (at.0, at.1 + 1)

abbrev pub place_from : ℕ × ℕ → List ℕ → ℕ × ℕ
place_from at [] = at
place_from at (b ∷ bs) = place_from (next at b) bs

-- the line and the column after a prefix of a text, which begins at line 1 and column 1
abbrev pub place_after : List ℕ → ℕ × ℕ
place_after bytes = place_from (1, 1) bytes
