use Rattle.std.proofs.Common.{◌≡◌, ◌++◌, map, drop}
use Rattle.std.specs.Prelude.{string_bytes, codes}
use Rattle.stm_program_source.specs.Texts.{joined}
use Rattle.stm_compiling.proofs.program.push_more.Given as goal

-- what was added so far, and the texts that are left
abbrev pub invariant-loop-text : goal.invariant-loop-text
invariant-loop-text l =
    string_bytes l.out ++ joined (map (λ u. codes ", " ++ u) (map string_bytes (drop l.text-index l.texts)))
    ≡ string_bytes l.fn.out ++ joined (map (λ u. codes ", " ++ u) (map string_bytes l.texts))
