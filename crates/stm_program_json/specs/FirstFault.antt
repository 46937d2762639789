-- The first fault of data in a program's place, apart from reading: the marks of all the data in the order of reading, none
-- left out after a fault, and then the first of them that is a fault.
use Rattle.std.specs.Prelude.{ℕ, zero, suc, ℤ, pos, negsuc, Bool, true, false, bytes_eq, List, [], ◌∷◌, ◌++◌, length, map, Option, Some, None, nat_le}
use Rattle.std.specs.Prelude.{if◌then◌else◌, option_and_then, codes, ◌||◌, nat_eq, nat_lt}
use Rattle.std.specs.List.{list_any}
use Rattle.std.specs.Map.{lookup}
use Rattle.serde_json.specs.Data.{Data, number, string, array, Items, no_items, item}
use Rattle.serde_json.specs.Find.{as_number, as_integer}
use Rattle.stm_json.specs.declared.cause.Cause.{Cause}
use Rattle.stm_json.specs.declared.cause.Cause.TheVariants.{Shape, Range, TooDeep, TooManyNodes, TooLong, TooMany}
use Rattle.stm_json.specs.declared.read_error.BadInput.{BadInput}
use Rattle.stm_program.specs.declared.operator.Operator.{Operator}
use Rattle.stm_program.specs.declared.operator.TheConstants.{OPERATORS}
use Rattle.stm_program.specs.Operators.{operator_word}
use Rattle.stm_program.specs.declared.limits.TheConstants.{MAX_DEPTH, MAX_NODES, MAX_PREFETCH, MAX_TEXT, MAX_TURNS, MAX_VARIABLE, MAX_LEASE}
use Rattle.stm_json.specs.Elements.{is_64_bit}
use Rattle.stm_json.specs.Faults.{at}

-- a node at a depth and a place, or what is wrong at a place
pub data Mark : Type 0 where
  Node : ℕ → List ℕ → Mark
  Wrong : List ℕ → Cause → Mark

abbrev pub wrong : List ℕ → Cause → List Mark
wrong p cause = Wrong p cause ∷ []

-- ---- numbers

abbrev pub range_marks : List ℕ → ℕ → Option ℤ → List Mark
range_marks p limit (Some (pos n)) = if nat_le n limit then [] else wrong p Range
range_marks p limit (Some (negsuc n)) = wrong p Range
range_marks p limit None = wrong p Shape

-- a whole number from 0 to a limit
abbrev pub number_marks : List ℕ → ℕ → Data → List Mark
number_marks p limit d = range_marks p limit (option_and_then as_integer (as_number d))

-- a whole number of 64 bits
abbrev pub whole_marks : List ℕ → Option ℤ → List Mark
whole_marks p (Some z) = if is_64_bit z then [] else wrong p Range
whole_marks p None = wrong p Shape

-- ---- the table: which words there are, and the sorts of the parts after each

-- an expression, a condition, a statement, a block, or a whole number from 0 to a limit
pub data Sort : Type 0 where
  Value : Sort
  Test : Sort
  Step : Sort
  Block : Sort
  Count : ℕ → Sort

abbrev pub Table : Type 0
Table = List (List ℕ × List Sort)

abbrev pub other_value_words : Table
other_value_words =
    (codes "var", Count MAX_VARIABLE ∷ [])
    ∷ (codes "get", Value ∷ []) ∷ (codes "rev", Value ∷ []) ∷ (codes "text_of", Value ∷ []) ∷ (codes "num_of", Value ∷ [])
    ∷ (codes "cat", Value ∷ Value ∷ []) ∷ []

-- those of operators on two numbers, and others
abbrev pub value_words : Table
value_words = map (λ (o : Operator). (operator_word o, Value ∷ Value ∷ [])) OPERATORS ++ other_value_words

abbrev pub test_words : Table
test_words =
    (codes "eq", Value ∷ Value ∷ []) ∷ (codes "less", Value ∷ Value ∷ [])
    ∷ (codes "not", Test ∷ []) ∷ (codes "and", Test ∷ Test ∷ []) ∷ (codes "or", Test ∷ Test ∷ []) ∷ []

abbrev pub step_words : Table
step_words =
    (codes "set", Count MAX_VARIABLE ∷ Value ∷ [])
    ∷ (codes "put", Value ∷ Value ∷ Count MAX_LEASE ∷ [])
    ∷ (codes "if", Test ∷ Block ∷ Block ∷ [])
    ∷ (codes "for", Count MAX_VARIABLE ∷ Value ∷ Count MAX_TURNS ∷ Block ∷ [])
    ∷ (codes "del", Value ∷ []) ∷ (codes "emit", Value ∷ []) ∷ (codes "abort", Value ∷ []) ∷ []

abbrev pub words_of : Sort → Table
words_of Value = value_words
words_of Test = test_words
words_of Step = step_words
words_of Block = []
words_of (Count limit) = []

-- the sorts of the parts after a word, where something of this sort begins with it
unfoldable pub parts_after : Sort → List ℕ → Option (List Sort)
parts_after sort word = lookup (bytes_eq word) (words_of sort)

-- there are as many elements as parts
abbrev pub are_as_many : List Sort → Items → Bool
are_as_many [] no_items = true
are_as_many (s ∷ ss) (item d ds) = are_as_many ss ds
are_as_many _ _ = false

-- ---- marks of data at a place

-- an expression, a condition and a statement is a node
abbrev pub as_node : Sort → ℕ → List ℕ → List Mark → List Mark
as_node Block k p ms = ms
as_node (Count limit) k p ms = ms
as_node _ k p ms = Node k p ∷ ms

abbrev pub marks_if : List ℕ → Option (List Sort) → Items → (List Sort → List Mark) → List Mark
marks_if p None ds parts = wrong p Shape
marks_if p (Some sorts) ds parts = if are_as_many sorts ds then parts sorts else wrong p Shape

-- what is marked in something of a sort that stands at depth k, after the node that it is
abbrev mutual
  pub marks_in : Sort → ℕ → List ℕ → Data → List Mark
  marks_in Value k p (string s) = if nat_le (length s) MAX_TEXT then [] else wrong p TooLong
  marks_in Value k p (number n) = whole_marks p (as_integer n)
  marks_in Block k p (array ds) = marks_of_steps k p 0 ds
  marks_in (Count limit) k p d = number_marks p limit d
  marks_in sort k p (array (item (string word) ds)) = marks_if p (parts_after sort word) ds (λ sorts. marks_of_parts k p 1 sorts ds)
  marks_in sort k p _ = wrong p Shape

  -- the parts of a node, from an index on
  pub marks_of_parts : ℕ → List ℕ → ℕ → List Sort → Items → List Mark
  marks_of_parts k p index [] ds = []
  marks_of_parts k p index (s ∷ ss) no_items = []
  marks_of_parts k p index (s ∷ ss) (item d ds) = as_node s (suc k) (at p index) (marks_in s (suc k) (at p index) d) ++ marks_of_parts k p (suc index) ss ds

  -- the statements of an array, from an index on
  pub marks_of_steps : ℕ → List ℕ → ℕ → Items → List Mark
  marks_of_steps k p index no_items = []
  marks_of_steps k p index (item d ds) = (Node k (at p index) ∷ marks_in Step k (at p index) d) ++ marks_of_steps k p (suc index) ds

-- ---- the list of keys that a program may begin with

-- the keys that come before: only texts are keys
abbrev pub with_text : List (List ℕ) → Data → List (List ℕ)
with_text earlier (string s) = earlier ++ s ∷ []
with_text earlier _ = earlier

-- a key after these
abbrev pub text_marks : List ℕ → List (List ℕ) → List ℕ → List Mark
text_marks p earlier s =
    if nat_eq (length s) 0 || list_any (bytes_eq s) earlier then wrong p Shape else (if nat_lt MAX_TEXT (length s) then wrong p TooLong else [])

abbrev pub key_marks : List ℕ → List (List ℕ) → Data → List Mark
key_marks p earlier (string s) = text_marks p earlier s
key_marks p earlier _ = wrong p Shape

-- the keys from an index on
abbrev pub marks_of_keys : List ℕ → ℕ → List (List ℕ) → Items → List Mark
marks_of_keys p index earlier no_items = []
marks_of_keys p index earlier (item d ds) =
    (if nat_lt index MAX_PREFETCH then key_marks (at p index) earlier d else wrong (at p index) TooMany) ++ marks_of_keys p (suc index) (with_text earlier d) ds

-- what follows the word: one array
abbrev pub marks_of_list : List ℕ → Items → List Mark
marks_of_list p (item (array ks) no_items) = marks_of_keys (at p 1) 0 [] ks
marks_of_list p (item d no_items) = wrong (at p 1) Shape
marks_of_list p _ = wrong p Shape

-- an array that begins with the word of a list
abbrev pub is_list : Data → Bool
is_list (array (item (string w) ds)) = bytes_eq w (codes "prefetch")
is_list _ = false

abbrev pub after_word : Data → Items
after_word (array (item d ds)) = ds
after_word _ = no_items

-- the elements of a program: its statements, after its list where it has one
abbrev pub marks_of_elements : Items → List Mark
marks_of_elements no_items = []
marks_of_elements (item d ds) =
    if is_list d then marks_of_list (at [] 0) (after_word d) ++ marks_of_steps 1 [] 1 ds else marks_of_steps 1 [] 0 (item d ds)

abbrev pub program_marks : Data → List Mark
program_marks (array ds) = marks_of_elements ds
program_marks _ = wrong [] Shape

-- ---- the first fault

abbrev pub fault_at : List ℕ → Cause → Option BadInput
fault_at p cause = Some (record { place = p; cause = cause })

-- where `room` more nodes are allowed: a node that is too deep is a fault, then one for which no room is left
abbrev pub first_of_marks : ℕ → List Mark → Option BadInput
first_of_marks room [] = None
first_of_marks room (Wrong p cause ∷ ms) = fault_at p cause
first_of_marks zero (Node k p ∷ ms) = if nat_le k MAX_DEPTH then fault_at p TooManyNodes else fault_at p TooDeep
first_of_marks (suc room) (Node k p ∷ ms) = if nat_le k MAX_DEPTH then first_of_marks room ms else fault_at p TooDeep

-- the first fault of data in a program's place, if there is one
unfoldable pub first_fault : Data → Option BadInput
first_fault d = first_of_marks MAX_NODES (program_marks d)
