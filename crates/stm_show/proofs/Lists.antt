-- Lists of operations that are not empty.
use Rattle.std.proofs.Common.{◌≡◌, ◌≤◌, ◌++◌, List, [], ◌∷◌, length, map, codes, refl, arith}
use Rattle.stm_outcome.specs.declared.txn.Op.{Op}
use Rattle.stm_program_source.specs.Texts.{filled}
use Rattle.stm_show.specs.Transactions.{shown_operation, shown_operations, shown_failure}

pub some_operations : (ops : List Op) → 1 ≤ length ops → filled 0 (map shown_operation ops) ≡ shown_operations ops
some_operations [] some = absurd (omega arith)
some_operations (op ∷ ops) some = refl

pub some_failure : (ops : List Op) → 1 ≤ length ops → codes " else " ++ shown_operations ops ≡ shown_failure ops
some_failure [] some = absurd (omega arith)
some_failure (op ∷ ops) some = refl
