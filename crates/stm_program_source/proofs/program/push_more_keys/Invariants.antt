use Rattle.std.proofs.Common.{◌≡◌, ◌++◌, map, drop}
use Rattle.std.specs.Prelude.{string_bytes, codes}
use Rattle.json.specs.Print.{quoted}
use Rattle.stm_program_source.specs.Texts.{joined}
use Rattle.stm_program_source.proofs.program.push_more_keys.Given as goal

-- what was added so far, and the keys that are left
abbrev pub invariant-loop-key : goal.invariant-loop-key
invariant-loop-key l =
    string_bytes l.out ++ joined (map (λ u. codes ", " ++ u) (map quoted (map string_bytes (drop l.key-index l.keys))))
    ≡ string_bytes l.fn.out ++ joined (map (λ u. codes ", " ++ u) (map quoted (map string_bytes l.keys)))
