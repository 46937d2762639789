-- The first fault of bytes in a trace's place, apart from reading: the faults of all the data in the order of reading, none left out because of another, and
-- then the first of them.
use Rattle.std.specs.Prelude.{ℕ, suc, List, [], ◌∷◌, ◌++◌, length, Option, Some, None, if◌then◌else◌, nat_lt, codes}
use Rattle.serde_json.specs.Data.{Data, null, string, array, Items, no_items, item}
use Rattle.serde_json.specs.Find.{as_str}
use Rattle.stm_history.specs.declared.revisions.TheConstants.{HIGHEST_REVISION}
use Rattle.stm_json.specs.declared.cause.Cause.TheVariants.{NotJson, Shape, TooLong}
use Rattle.stm_json.specs.declared.limits.TheConstants.{MOST_BYTES}
use Rattle.stm_json.specs.declared.read_error.BadInput.{BadInput}
use Rattle.stm_json.specs.Bytes.{data_of}
use Rattle.stm_json.specs.Outcome.{step}
use Rattle.stm_json.specs.Faults.{Faults, first_of, wrong, at, Sort, AnyText, WordOf, NumberIn, By, Table}
use Rattle.stm_json.specs.Faults.{text_faults, is_count, parts_faults, sorted_faults, list_faults, any_number}
use Rattle.stm_texts.specs.FirstFault.{level_words, is_opening}

-- ---- arrays

-- an array of as many parts as there are sorts
abbrev pub array_faults : List Sort → List ℕ → Data → Faults
array_faults sorts p (array ds) = if is_count sorts ds then parts_faults p 0 sorts ds else wrong p Shape
array_faults sorts p _ = wrong p Shape

-- the elements from an index on
abbrev pub elements_faults : (List ℕ → Data → Faults) → List ℕ → ℕ → Items → Faults
elements_faults faults p index no_items = []
elements_faults faults p index (item d ds) = faults (at p index) d ++ elements_faults faults p (suc index) ds

abbrev pub all_faults : (List ℕ → Data → Faults) → List ℕ → Data → Faults
all_faults faults p (array ds) = elements_faults faults p 0 ds
all_faults faults p _ = wrong p Shape

-- ---- traces

-- null stands for the value of an absent key
abbrev pub value_faults : List ℕ → Data → Faults
value_faults p null = []
value_faults p d = text_faults p (as_str d)

abbrev pub read_faults : List ℕ → Data → Faults
read_faults = array_faults (AnyText ∷ By value_faults ∷ any_number ∷ any_number ∷ [])

abbrev pub write_table : Table
write_table = (codes "put", AnyText ∷ AnyText ∷ []) ∷ (codes "del", AnyText ∷ []) ∷ []

abbrev pub commit_faults : List ℕ → Data → Faults
commit_faults = array_faults (WordOf level_words ∷ NumberIn 1 HIGHEST_REVISION ∷ By (all_faults read_faults) ∷ By (list_faults write_table) ∷ [])

abbrev pub key_faults : List ℕ → Data → Faults
key_faults = array_faults (AnyText ∷ AnyText ∷ NumberIn 1 HIGHEST_REVISION ∷ [])

-- the faults of an array of the word begin
abbrev pub beginning_faults : List ℕ → Data → Faults
beginning_faults p (array (item (string w) ds)) = sorted_faults p (Some (NumberIn 1 HIGHEST_REVISION ∷ By (all_faults key_faults) ∷ [])) ds
beginning_faults p _ = wrong p Shape

abbrev pub trace_faults : Items → Faults
trace_faults no_items = []
trace_faults (item d ds) =
    if is_opening d then beginning_faults (step 0) d ++ elements_faults commit_faults [] 1 ds else elements_faults commit_faults [] 0 (item d ds)

abbrev pub data_faults : Option Data → Faults
data_faults None = wrong [] NotJson
data_faults (Some (array ds)) = trace_faults ds
data_faults (Some _) = wrong [] Shape

abbrev pub faults_in : List ℕ → Faults
faults_in bytes = (if nat_lt MOST_BYTES (length bytes) then wrong [] TooLong else []) ++ data_faults (data_of bytes)

-- the first fault of bytes in a trace's place, if there is one
unfoldable pub first_fault : List ℕ → Option BadInput
first_fault bytes = first_of (faults_in bytes)
