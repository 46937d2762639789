-- The lines of a text, and the first line in which two texts are not alike.
use Rattle.std.specs.Prelude.{ℕ, suc, List, [], ◌∷◌, Bool, bytes_eq, Option, Some, None, if◌then◌else◌, ◌==◌}

abbrev pub is_line_feed : ℕ → Bool
is_line_feed b = b == 10

-- how many bytes the first line has, its line feed with it
abbrev pub line_end : List ℕ → ℕ
line_end [] = 0
line_end (b ∷ bs) = if is_line_feed b then 1 else suc (line_end bs)

-- a byte begins the first of these lines, or is a line where there is none
abbrev pub onto_line : ℕ → List (List ℕ) → List (List ℕ)
onto_line b [] = (b ∷ []) ∷ []
onto_line b (l ∷ ls) = (b ∷ l) ∷ ls

-- the lines of a text, each with its line feed; what comes after the last line feed is a line too
abbrev pub lines_in : List ℕ → List (List ℕ)
lines_in [] = []
lines_in (b ∷ bs) = if is_line_feed b then (b ∷ []) ∷ lines_in bs else onto_line b (lines_in bs)

-- of the lines of two texts, the first of which have this number: the number of the first in which they are not alike, and the
-- line that is expected there, which is empty where none is; nothing where they are alike to the end
abbrev pub first_unlike : ℕ → List (List ℕ) → List (List ℕ) → Option (ℕ × List ℕ)
first_unlike n [] [] = None
first_unlike n (l ∷ ls) [] = Some (n, l)
first_unlike n [] (g ∷ gs) = Some (n, [])
first_unlike n (l ∷ ls) (g ∷ gs) = if bytes_eq l g then first_unlike (suc n) ls gs else Some (n, l)
