-- Parts of arrays: texts, numbers and lists, and how they are spelled.
use Rattle.std.specs.Prelude.{◌≡◌, ℕ, suc, ◌≤◌, pos, List, [], ◌∷◌, Bool, Option, Some, None, Ok, nat_eq}
use Rattle.std.specs.Cmp.Lexicographic.{pointwise}
use Rattle.serde_json.specs.Data.{Data, string, array, Items, no_items, item}
use Rattle.serde_json.specs.Find.{as_str}
use Rattle.serde_json.specs.View.{items_of}
use Rattle.stm_json.specs.declared.cause.Cause.TheVariants.{Shape}
use Rattle.stm_json.specs.Elements.{SpellsNumber}
use Rattle.stm_json.specs.Outcome.{Outcome, bad, ◌>>=◌, within}

-- two texts are the same
abbrev pub same : List ℕ → List ℕ → Bool
same = pointwise nat_eq

-- what is read of a text
abbrev pub on_text : {A : Type 0} → (List ℕ → Outcome A) → Option (List ℕ) → Outcome A
on_text read None = bad Shape
on_text read (Some s) = read s

-- a text, of any length
unfoldable pub text_of : Data → Outcome (List ℕ)
text_of d = on_text (λ s. Ok s) (as_str d)

-- the elements of a list, from an index on
unfoldable pub each_from : {A : Type 0} → (Data → Outcome A) → ℕ → Items → Outcome (List A)
each_from read index no_items = Ok []
each_from read index (item d ds) = within index (read d) >>= λ x. each_from read (suc index) ds >>= λ xs. Ok (x ∷ xs)

abbrev pub list_of : {A : Type 0} → (Data → Outcome A) → Option Items → Outcome (List A)
list_of read None = bad Shape
list_of read (Some ds) = each_from read 0 ds

-- an array of a word and the parts after it
abbrev pub spelled : List ℕ → List Data → Data
spelled word parts = array (item (string word) (items_of parts))

-- a whole number from a least to a most
abbrev pub SpellsNumberIn : ℕ → ℕ → Data → ℕ → Type 0
SpellsNumberIn least most d n = SpellsNumber d (pos n) × (least ≤ n) × (n ≤ most)

-- the elements of a list, one after the other
abbrev pub SpellsEach : {A : Type 0} → (Data → A → Type 0) → Items → List A → Type 0
SpellsEach spells ds [] = ds ≡ no_items
SpellsEach spells ds (x ∷ xs) = (a : Data) × (rest : Items) × (ds ≡ item a rest) × spells a x × SpellsEach spells rest xs
