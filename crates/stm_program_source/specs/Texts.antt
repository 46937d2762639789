-- The pieces that printed sources are made of.
use Rattle.std.specs.Prelude.{ℕ, zero, suc, ◌+◌, List, [], ◌∷◌, ◌++◌, map, Bool, nat_eq, if◌then◌else◌, codes, decimal}

-- one text after the other
abbrev pub joined : List (List ℕ) → List ℕ
joined [] = []
joined (t ∷ ts) = t ++ joined ts

-- the same with a text between each two
abbrev pub separated : List ℕ → List (List ℕ) → List ℕ
separated between [] = []
separated between (t ∷ ts) = t ++ joined (map (λ u. between ++ u) ts)

-- a number that is the last argument of a call, and left out where it is 0
abbrev pub last_number : ℕ → List ℕ
last_number n = if nat_eq n 0 then [] else codes ", " ++ decimal n

-- a word, and what it is of
abbrev pub call : List ℕ → List ℕ → List ℕ
call word arguments = word ++ codes "(" ++ arguments ++ codes ")"

abbrev pub bracketed : Bool → List ℕ → List ℕ
bracketed needed text = if needed then codes "(" ++ text ++ codes ")" else text

-- so many blocks are around a line
abbrev pub indentation : ℕ → List ℕ
indentation zero = []
indentation (suc blocks) = indentation blocks ++ codes "    "

-- the end of a line, and the indentation of the next one
abbrev pub next_line : ℕ → List ℕ
next_line blocks = codes "\n" ++ indentation blocks

-- each text on a line of its own
abbrev pub lines : ℕ → List (List ℕ) → List ℕ
lines blocks [] = []
lines blocks (t ∷ ts) = next_line blocks ++ t ++ lines blocks ts

-- a block of these statements, in a line around which stand so many blocks
abbrev pub filled : ℕ → List (List ℕ) → List ℕ
filled blocks ts = codes "{" ++ lines (blocks + 1) ts ++ next_line blocks ++ codes "}"

abbrev pub braced : ℕ → List (List ℕ) → List ℕ
braced blocks [] = codes "{}"
braced blocks (t ∷ ts) = filled blocks (t ∷ ts)
