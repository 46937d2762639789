-- The faults of arrays of a word and parts, apart from reading: a table says which sorts of parts follow each word, and
-- all faults are listed in the order of reading, and none is left out after another.
use Rattle.std.specs.Prelude.{◌≡◌, ℕ, suc, ℤ, pos, negsuc, List, [], ◌∷◌, ◌++◌, Bool, true, false, Option, Some, None, if◌then◌else◌, ◌&&◌, nat_le}
use Rattle.std.specs.Prelude.{option_and_then}
use Rattle.serde_json.specs.Data.{Data, string, array, Items, no_items, item}
use Rattle.serde_json.specs.Find.{as_str, as_number, as_integer}
use Rattle.stm_json.specs.declared.cause.Cause.{Cause}
use Rattle.stm_json.specs.declared.cause.Cause.TheVariants.{Shape, Range}
use Rattle.stm_json.specs.declared.read_error.BadInput.{BadInput}
use Rattle.stm_json.specs.declared.read_error.ReadError.{ReadError}
use Rattle.stm_json.specs.declared.read_error.ReadError.TheVariants.{OutOfMemory, Bad}
use Rattle.stm_history.specs.declared.revisions.TheConstants.{HIGHEST_NUMBER}
use Rattle.stm_json.specs.Outcome.{step}
use Rattle.stm_json.specs.Parts.{same}

abbrev pub Faults : Type 0
Faults = List BadInput

abbrev pub first_of : Faults → Option BadInput
first_of [] = None
first_of (f ∷ fs) = Some f

-- the error is the first fault, or says that memory ran out
abbrev pub IsFirstFault : Option BadInput → ReadError → Type 0
IsFirstFault first OutOfMemory = Unit {0}
IsFirstFault first (Bad f) = first ≡ Some f

abbrev pub wrong : List ℕ → Cause → Faults
wrong p cause = record { place = p; cause = cause } ∷ []

-- the place of an element
abbrev pub at : List ℕ → ℕ → List ℕ
at p index = p ++ step index

-- ---- what may follow a word

-- any text, one of some words, a whole number from a least to a most, and what has faults by a definition of its own
pub data Sort : Type 0 where
  AnyText : Sort
  WordOf : List (List ℕ) → Sort
  NumberIn : ℕ → ℕ → Sort
  By : (List ℕ → Data → List BadInput) → Sort

abbrev pub text_faults : List ℕ → Option (List ℕ) → Faults
text_faults p (Some s) = []
text_faults p None = wrong p Shape

abbrev pub is_word_of : List (List ℕ) → List ℕ → Bool
is_word_of [] w = false
is_word_of (x ∷ xs) w = if same w x then true else is_word_of xs w

abbrev pub word_faults : List (List ℕ) → List ℕ → Option (List ℕ) → Faults
word_faults words p (Some w) = if is_word_of words w then [] else wrong p Shape
word_faults words p None = wrong p Shape

abbrev pub number_faults : List ℕ → ℕ → ℕ → Option ℤ → Faults
number_faults p least most (Some (pos n)) = if nat_le least n && nat_le n most then [] else wrong p Range
number_faults p least most (Some (negsuc n)) = wrong p Range
number_faults p least most None = wrong p Shape

abbrev pub faults_by : Sort → List ℕ → Data → Faults
faults_by AnyText p d = text_faults p (as_str d)
faults_by (WordOf words) p d = word_faults words p (as_str d)
faults_by (NumberIn least most) p d = number_faults p least most (option_and_then as_integer (as_number d))
faults_by (By faults) p d = faults p d

-- ---- arrays of a word and parts

-- words with the sorts of the parts that follow them
abbrev pub Table : Type 0
Table = List (List ℕ × List Sort)

abbrev pub sorts_of : Table → List ℕ → Option (List Sort)
sorts_of [] w = None
sorts_of (row ∷ rows) w = if same w row.0 then Some row.1 else sorts_of rows w

-- there are as many parts as sorts
abbrev pub is_count : List Sort → Items → Bool
is_count [] no_items = true
is_count [] (item d ds) = false
is_count (sort ∷ sorts) no_items = false
is_count (sort ∷ sorts) (item d ds) = is_count sorts ds

-- the faults of the parts from an index on
abbrev pub parts_faults : List ℕ → ℕ → List Sort → Items → Faults
parts_faults p index [] ds = []
parts_faults p index (sort ∷ sorts) no_items = []
parts_faults p index (sort ∷ sorts) (item d ds) = faults_by sort (at p index) d ++ parts_faults p (suc index) sorts ds

abbrev pub sorted_faults : List ℕ → Option (List Sort) → Items → Faults
sorted_faults p (Some sorts) ds = if is_count sorts ds then parts_faults p 1 sorts ds else wrong p Shape
sorted_faults p None ds = wrong p Shape

-- an array that begins with a word of a table
abbrev pub worded_faults : Table → List ℕ → Data → Faults
worded_faults table p (array (item (string w) ds)) = sorted_faults p (sorts_of table w) ds
worded_faults table p _ = wrong p Shape

-- ---- lists of such arrays

-- the elements from an index on
abbrev pub each_faults : Table → List ℕ → ℕ → Items → Faults
each_faults table p index no_items = []
each_faults table p index (item d ds) = worded_faults table (at p index) d ++ each_faults table p (suc index) ds

abbrev pub list_faults : Table → List ℕ → Data → Faults
list_faults table p (array ds) = each_faults table p 0 ds
list_faults table p _ = wrong p Shape

-- a number from 0 on
abbrev pub any_number : Sort
any_number = NumberIn 0 HIGHEST_NUMBER
