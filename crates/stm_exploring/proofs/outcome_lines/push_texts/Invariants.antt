use Rattle.std.proofs.Common.{◌≡◌, ◌++◌, string_bytes}
use Rattle.std.specs.List.{concat}
use Rattle.stm_exploring.proofs.outcome_lines.push_texts.Given as goal

-- the text so far, and the texts that are left
abbrev pub invariant-loop-line : goal.invariant-loop-line
invariant-loop-line l = string_bytes l.text ++ concat l.line-iterator ≡ string_bytes l.fn.text ++ concat l.texts.keys
