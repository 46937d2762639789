use Rattle.std.proofs.Common.{◌≡◌, map, take}
use Rattle.stm_exploring.specs.Lines.{outcome_text, each_once}
use Rattle.stm_exploring.proofs.outcome_lines.each_line.Given as goal

-- the lines of the outcomes so far, each once
abbrev pub invariant-loop-outcome : goal.invariant-loop-outcome
invariant-loop-outcome l = l.lines.keys ≡ each_once (map outcome_text (take l.outcome-index l.outcomes))
