-- Which data spell which transaction: the grammar, apart from reading.
use Rattle.std.specs.Prelude.{◌≡◌, ℕ, List, [], ◌∷◌, codes}
use Rattle.serde_json.specs.Data.{Data, string, array, Items}
use Rattle.stm_history.specs.declared.revisions.TheConstants.{HIGHEST_NUMBER}
use Rattle.stm_outcome.specs.declared.txn.Compare.{Compare}
use Rattle.stm_outcome.specs.declared.txn.Op.{Op}
use Rattle.stm_outcome.specs.declared.txn.Op.TheVariants.{Get, Put, Del}
use Rattle.stm_outcome.specs.declared.txn.Order.{Order}
use Rattle.stm_outcome.specs.declared.txn.Order.TheVariants.{Equal, NotEqual, Greater, Less}
use Rattle.stm_outcome.specs.declared.txn.Target.{Target}
use Rattle.stm_outcome.specs.declared.txn.Target.TheVariants.{Version, Create, Mod, Lease, Value}
use Rattle.stm_outcome.specs.declared.txn.Txn.{Txn}
use Rattle.stm_json.specs.Parts.{SpellsEach, SpellsNumberIn, spelled}

abbrev pub order_text : Order → List ℕ
order_text Equal = codes "="
order_text NotEqual = codes "!="
order_text Greater = codes ">"
order_text Less = codes "<"

-- what a compare looks at is spelled by a word, and the compare's side by data
abbrev pub SpellsTarget : List ℕ → Data → Target → Type 0
SpellsTarget w d (Version n) = (w ≡ codes "version") × SpellsNumberIn 0 HIGHEST_NUMBER d n
SpellsTarget w d (Create n) = (w ≡ codes "create") × SpellsNumberIn 0 HIGHEST_NUMBER d n
SpellsTarget w d (Mod n) = (w ≡ codes "mod") × SpellsNumberIn 0 HIGHEST_NUMBER d n
SpellsTarget w d (Lease n) = (w ≡ codes "lease") × SpellsNumberIn 0 HIGHEST_NUMBER d n
SpellsTarget w d (Value s) = (w ≡ codes "value") × (d ≡ string s)

-- the word, the key, the order and the compare's side
abbrev pub SpellsCompare : Data → Compare → Type 0
SpellsCompare d c = (w : List ℕ) × (a : Data) × (d ≡ spelled w (string c.key ∷ string (order_text c.order) ∷ a ∷ [])) × SpellsTarget w a c.target

abbrev pub SpellsOperation : Data → Op → Type 0
SpellsOperation d (Get key rev) = (a : Data) × (d ≡ spelled (codes "get") (string key ∷ a ∷ [])) × SpellsNumberIn 0 HIGHEST_NUMBER a rev
SpellsOperation d (Put key value lease) = (a : Data) × (d ≡ spelled (codes "put") (string key ∷ string value ∷ a ∷ []))
    × SpellsNumberIn 0 HIGHEST_NUMBER a lease
SpellsOperation d (Del key) = d ≡ spelled (codes "del") (string key ∷ [])

-- the word, and the lists of compares, of operations of the success list, and of those of the failure list
abbrev pub SpellsTxn : Data → Txn → Type 0
SpellsTxn d t = (a : Items) × (b : Items) × (c : Items) × (d ≡ spelled (codes "txn") (array a ∷ array b ∷ array c ∷ []))
    × SpellsEach SpellsCompare a t.compares × SpellsEach SpellsOperation b t.success × SpellsEach SpellsOperation c t.failure
