-- Explanations of faults.
use Rattle.std.specs.Prelude.{◌≡◌, ◌⊎◌, ℕ, ◌≤◌, List, [], ◌++◌, length, take, codes, decimal}
use Rattle.std.specs.List.{All, concat}
use Rattle.stm_explain.specs.Positions.{place_after}

-- a line of explanation: the name of the file, the line and the column, and what is said
abbrev pub explanation : List ℕ → ℕ → ℕ → List ℕ → List ℕ
explanation name line column words = name ++ codes ":" ++ decimal line ++ codes ":" ++ decimal column ++ codes ": " ++ words ++ codes "\n"

-- it is one with these words, whose line and column are those of an offset in the text
abbrev pub IsExplanationOf : List ℕ → List ℕ → List ℕ → List ℕ → Type 0
IsExplanationOf name text words said =
    (offset : ℕ) × (offset ≤ length text) × (said ≡ explanation name (place_after (take offset text)).0 (place_after (take offset text)).1 words)

-- it is one with some words
abbrev pub IsExplanation : List ℕ → List ℕ → List ℕ → Type 0
IsExplanation name text said =
    (offset : ℕ) × (offset ≤ length text) × (words : List ℕ)
    × (said ≡ explanation name (place_after (take offset text)).0 (place_after (take offset text)).1 words)

-- they are such lines, one after another
abbrev pub AreExplanations : List ℕ → List ℕ → List ℕ → Type 0
AreExplanations name text said = (lines : List (List ℕ)) × All (IsExplanation name text) lines × (said ≡ concat lines)

-- they are, or nothing is said
abbrev pub ExplainsOrNothing : List ℕ → List ℕ → List ℕ → Type 0
ExplainsOrNothing name text said = (said ≡ []) ⊎ AreExplanations name text said
