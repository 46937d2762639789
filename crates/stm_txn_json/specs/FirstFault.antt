-- The first fault of data in a transaction's place, apart from reading: all faults by the table of words, and then the first.
use Rattle.std.specs.Prelude.{ℕ, List, [], ◌∷◌, Option, codes}
use Rattle.serde_json.specs.Data.{Data}
use Rattle.stm_json.specs.declared.read_error.BadInput.{BadInput}
use Rattle.stm_json.specs.Faults.{Faults, first_of, Sort, AnyText, WordOf, By, Table, worded_faults, list_faults, any_number}

abbrev pub order_words : List (List ℕ)
order_words = codes "=" ∷ codes "!=" ∷ codes ">" ∷ codes "<" ∷ []

-- the words of compares, each with the key, the order and the compare's side after it
abbrev pub compare_table : Table
compare_table =
    (codes "version", AnyText ∷ WordOf order_words ∷ any_number ∷ [])
    ∷ (codes "create", AnyText ∷ WordOf order_words ∷ any_number ∷ [])
    ∷ (codes "mod", AnyText ∷ WordOf order_words ∷ any_number ∷ [])
    ∷ (codes "lease", AnyText ∷ WordOf order_words ∷ any_number ∷ [])
    ∷ (codes "value", AnyText ∷ WordOf order_words ∷ AnyText ∷ [])
    ∷ []

abbrev pub operation_table : Table
operation_table =
    (codes "get", AnyText ∷ any_number ∷ [])
    ∷ (codes "put", AnyText ∷ AnyText ∷ any_number ∷ [])
    ∷ (codes "del", AnyText ∷ [])
    ∷ []

-- the compares, the success list and the failure list
abbrev pub txn_sorts : List Sort
txn_sorts = By (list_faults compare_table) ∷ By (list_faults operation_table) ∷ By (list_faults operation_table) ∷ []

-- the word of a transaction, with what follows it
abbrev pub txn_row : List ℕ × List Sort
txn_row = (codes "txn", txn_sorts)

abbrev pub txn_faults : List ℕ → Data → Faults
txn_faults = worded_faults (txn_row ∷ [])

-- the first fault of data in a transaction's place, if there is one
unfoldable pub first_fault : Data → Option BadInput
first_fault d = first_of (txn_faults [] d)
