-- The words of a command line as they are read: what `--explain=WHEN` stands for.
use Rattle.std.specs.Prelude.{ℕ, List, [], ◌∷◌, ◌++◌, Bool, true, false, if◌then◌else◌, bytes_eq, codes, map, fold, string_bytes}
use Rattle.stm_arguments.specs.declared.plain.PlainWords.{PlainWords}

-- a word in its plain spelling
abbrev pub spelled : List ℕ → List ℕ
spelled word = if bytes_eq word (codes "--explain=always") then codes "--explain" else word

-- the words that were read, whether no fault is to be explained, and whether `--` was among them
abbrev pub Read : Type 0
Read = List (List ℕ) × (Bool × Bool)

abbrev pub start : Read
start = ([], (false, false))

-- after the next word: behind `--` it is read as it is, and before it `--explain=never` stands for no word
abbrev pub taken : Read → List ℕ → Read
taken (words, (is_silent, is_ended)) word =
    if is_ended then (words ++ word ∷ [], (is_silent, true))
    else (if bytes_eq word (codes "--explain=never") then (words, (true, false))
    else (words ++ spelled word ∷ [], (is_silent, bytes_eq word (codes "--"))))

abbrev pub plain : List (List ℕ) → Read
plain words = fold taken start words

abbrev pub seen : PlainWords → Read
seen read = (map string_bytes read.words.items, (read.is_silent, read.is_ended))
