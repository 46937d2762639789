-- How another client's transaction is printed.
use Rattle.std.specs.Prelude.{ℕ, List, [], ◌∷◌, ◌++◌, map, codes, decimal}
use Rattle.json.specs.Print.{quoted}
use Rattle.stm_outcome.specs.declared.txn.Compare.{Compare}
use Rattle.stm_outcome.specs.declared.txn.Op.{Op}
use Rattle.stm_outcome.specs.declared.txn.Op.TheVariants.{Get, Put, Del}
use Rattle.stm_outcome.specs.declared.txn.Order.{Order}
use Rattle.stm_outcome.specs.declared.txn.Order.TheVariants.{Equal, NotEqual, Greater, Less}
use Rattle.stm_outcome.specs.declared.txn.Target.{Target}
use Rattle.stm_outcome.specs.declared.txn.Target.TheVariants.{Version, Create, Mod, Lease, Value}
use Rattle.stm_outcome.specs.declared.txn.Txn.{Txn}
use Rattle.stm_program_source.specs.Texts.{separated, call, last_number, braced}
use Rattle.stm_texts.specs.Writing.{target_text}

abbrev pub shown_order : Order → List ℕ
shown_order Equal = codes " == "
shown_order NotEqual = codes " != "
shown_order Greater = codes " > "
shown_order Less = codes " < "

abbrev pub shown_side : Target → List ℕ
shown_side (Version n) = decimal n
shown_side (Create n) = decimal n
shown_side (Mod n) = decimal n
shown_side (Lease n) = decimal n
shown_side (Value s) = quoted s

abbrev pub shown_compare : Compare → List ℕ
shown_compare c = call (target_text c.target) (quoted c.key) ++ shown_order c.order ++ shown_side c.target

-- the lease of a put and the revision of a get are left out where they are 0
abbrev pub shown_operation : Op → List ℕ
shown_operation (Get key rev) = call (codes "get") (quoted key ++ last_number rev)
shown_operation (Put key value lease) = call (codes "put") (quoted key ++ codes ", " ++ quoted value ++ last_number lease)
shown_operation (Del key) = call (codes "del") (quoted key)

abbrev pub shown_compares : List Compare → List ℕ
shown_compares [] = []
shown_compares (c ∷ cs) = codes "if " ++ separated (codes " && ") (map shown_compare (c ∷ cs)) ++ codes " "

abbrev pub shown_operations : List Op → List ℕ
shown_operations ops = braced 0 (map shown_operation ops)

abbrev pub shown_failure : List Op → List ℕ
shown_failure [] = []
shown_failure (op ∷ ops) = codes " else " ++ shown_operations (op ∷ ops)

abbrev pub shown_txn : Txn → List ℕ
shown_txn t = codes "txn " ++ shown_compares t.compares ++ shown_operations t.success ++ shown_failure t.failure
