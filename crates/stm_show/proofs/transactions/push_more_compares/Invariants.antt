use Rattle.std.proofs.Common.{◌≡◌, ◌++◌, map, drop}
use Rattle.std.specs.Prelude.{string_bytes, codes}
use Rattle.stm_program_source.specs.Texts.{joined}
use Rattle.stm_show.specs.Transactions.{shown_compare}
use Rattle.stm_show.proofs.transactions.push_more_compares.Given as goal

-- what was added so far, and the compares that are left
abbrev pub invariant-loop-compare : goal.invariant-loop-compare
invariant-loop-compare l =
    string_bytes l.out ++ joined (map (λ u. codes " && " ++ u) (map shown_compare (drop l.compare-index l.compares)))
    ≡ string_bytes l.fn.out ++ joined (map (λ u. codes " && " ++ u) (map shown_compare l.compares))
