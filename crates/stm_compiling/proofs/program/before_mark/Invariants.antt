use Rattle.std.proofs.Common.{◌≡◌, ◌+◌, map, drop}
use Rattle.std.specs.Prelude.{string_bytes}
use Rattle.stm_compiling.specs.Programs.{before_mark}
use Rattle.stm_compiling.proofs.program.before_mark.Given as goal

-- none of the words so far is the mark
abbrev pub invariant-loop-index : goal.invariant-loop-index
invariant-loop-index l =
    before_mark (map string_bytes l.words) ≡ l.index + before_mark (map string_bytes (drop l.index l.words))
