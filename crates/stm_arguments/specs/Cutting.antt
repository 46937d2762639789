-- The arguments of a program of a source: the words behind a file and the program's name.
use Rattle.std.specs.Prelude.{ℕ, suc, ◌+◌, List, [], ◌∷◌, take, drop, length, map, Bool, true, false, ◌||◌, nat_eq, bytes_eq, if◌then◌else◌, codes, string_bytes}
use Rattle.stm_arguments.specs.declared.cutting.CutWords.{CutWords}

-- an option, and no word in a place: it begins with `-` (45), and has more
abbrev pub is_option : List ℕ → Bool
is_option [] = false
is_option (b ∷ []) = false
is_option (b ∷ (c ∷ cs)) = nat_eq b 45

-- an option of these commands whose value is the word behind it
abbrev pub takes_value : List ℕ → Bool
takes_value word = bytes_eq word (codes "--store") || (bytes_eq word (codes "--level") || bytes_eq word (codes "--attempts"))

-- how many words there are up to the next one in a place, and with it; all, where there is none. The first may be the value of an option before it
abbrev pub place_from : Bool → List (List ℕ) → ℕ
place_from is_value [] = 0
place_from true (w ∷ ws) = suc (place_from false ws)
place_from false (w ∷ ws) = suc (if is_option w then place_from (takes_value w) ws else 0)

abbrev pub up_to_place : List (List ℕ) → ℕ
up_to_place words = place_from false words

-- how many there are up to the second one in a place, and with it
abbrev pub up_to_name : List (List ℕ) → ℕ
up_to_name words = up_to_place words + up_to_place (drop (up_to_place words) words)

-- the commands that take a program's name, and its arguments behind that
abbrev pub names_program : List ℕ → Bool
names_program command = bytes_eq command (codes "compile") || bytes_eq command (codes "run")

-- how many words of a command line, the program's name first, stand before such arguments
abbrev pub before_arguments : List (List ℕ) → ℕ
before_arguments (program ∷ (word ∷ rest)) = if names_program word then 2 + up_to_name rest else length (program ∷ (word ∷ rest))
before_arguments words = length words

abbrev pub cut : List (List ℕ) → List (List ℕ) × List (List ℕ)
cut words = (take (before_arguments words) words, drop (before_arguments words) words)

abbrev pub seen : CutWords → List (List ℕ) × List (List ℕ)
seen read = (map string_bytes read.words.items, map string_bytes read.arguments.items)
