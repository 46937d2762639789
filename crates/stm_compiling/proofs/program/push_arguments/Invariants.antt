use Rattle.std.proofs.Common.{◌≡◌, ◌++◌, map, drop}
use Rattle.std.specs.Prelude.{string_bytes}
use Rattle.stm_compiling.specs.Programs.{arguments_from}
use Rattle.stm_compiling.proofs.program.push_arguments.Given as goal

-- what was added so far, and the words that are left
abbrev pub invariant-loop-place : goal.invariant-loop-place
invariant-loop-place l =
    map string_bytes l.tokens.items ++ arguments_from l.kinds l.place (map string_bytes (drop l.place l.words))
    ≡ map string_bytes l.fn.tokens.items ++ arguments_from l.kinds 0 (map string_bytes l.words)
