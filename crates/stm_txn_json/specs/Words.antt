-- The words that a compare begins with, and those of its order.
use Rattle.std.specs.Prelude.{ℕ, List, Ok, if◌then◌else◌, codes}
use Rattle.stm_json.specs.declared.cause.Cause.TheVariants.{Shape}
use Rattle.stm_json.specs.Outcome.{Outcome, bad}
use Rattle.stm_outcome.specs.declared.txn.Order.{Order}
use Rattle.stm_outcome.specs.declared.txn.Order.TheVariants.{Equal, NotEqual, Greater, Less}
use Rattle.stm_txn_json.specs.declared.words.TargetWord.{TargetWord}
use Rattle.stm_txn_json.specs.declared.words.TargetWord.TheVariants.{Version, Create, Mod, Lease, Value}
use Rattle.stm_json.specs.Parts.{same}

unfoldable pub order_named : List ℕ → Outcome Order
order_named w =
    if same w (codes "=") then Ok Equal
    else (if same w (codes "!=") then Ok NotEqual
    else (if same w (codes ">") then Ok Greater
    else (if same w (codes "<") then Ok Less
    else bad Shape)))

unfoldable pub target_named : List ℕ → Outcome TargetWord
target_named w =
    if same w (codes "version") then Ok Version
    else (if same w (codes "create") then Ok Create
    else (if same w (codes "mod") then Ok Mod
    else (if same w (codes "lease") then Ok Lease
    else (if same w (codes "value") then Ok Value
    else bad Shape))))
