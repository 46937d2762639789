use Rattle.std.proofs.Common.{◌≡◌, ◌++◌, map, drop}
use Rattle.std.specs.Prelude.{string_bytes}
use Rattle.stm_program_source.specs.Texts.{lines}
use Rattle.stm_show.specs.Transactions.{shown_operation}
use Rattle.stm_show.proofs.transactions.push_lines.Given as goal

-- what was added so far, and the operations that are left
abbrev pub invariant-loop-operation : goal.invariant-loop-operation
invariant-loop-operation l =
    string_bytes l.out ++ lines 1 (map shown_operation (drop l.operation-index l.operations))
    ≡ string_bytes l.fn.out ++ lines 1 (map shown_operation l.operations)
