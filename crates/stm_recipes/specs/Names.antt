-- What the recipes take as the name of an account, a queue or a slot, as an item and as a holder.
use Rattle.std.specs.Prelude.{ℕ, ◌<◌, ◌≤◌, List, ◌++◌, length, codes}
use Rattle.stm_recipes.specs.declared.names.TheConstants.{MAX_NAME}

-- a text of 1 to 1024 bytes
abbrev pub IsName : List ℕ → Type 0
IsName t = (0 < length t) × (length t ≤ MAX_NAME)

-- where a queue keeps the number of its first item, and that of the next one to come
abbrev pub head_key : List ℕ → List ℕ
head_key queue = queue ++ codes "/head"

abbrev pub tail_key : List ℕ → List ℕ
tail_key queue = queue ++ codes "/tail"

-- what the keys of a queue's items begin with, before an item's number
abbrev pub items_key : List ℕ → List ℕ
items_key queue = queue ++ codes "/"
