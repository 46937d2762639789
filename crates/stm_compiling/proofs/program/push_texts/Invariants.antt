use Rattle.std.proofs.Common.{◌≡◌, ◌++◌, map, take}
use Rattle.std.specs.Prelude.{string_bytes}
use Rattle.json.specs.Print.{quoted}
use Rattle.stm_compiling.proofs.program.push_texts.Given as goal

-- the words so far are added
abbrev pub invariant-loop-word : goal.invariant-loop-word
invariant-loop-word l =
    map string_bytes l.tokens.items ≡ map string_bytes l.fn.tokens.items ++ map quoted (map string_bytes (take l.word-index l.words))
