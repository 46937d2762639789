use Rattle.std.proofs.Common.{◌≡◌, map, take}
use Rattle.std.specs.List.{zip}
use Rattle.stm_exploring.specs.Lines.{each_once}
use Rattle.stm_exploring.specs.Questions.{witness_text}
use Rattle.stm_exploring.proofs.outcome_lines.each_witness.Given as goal

-- the lines of the outcomes and schedules so far, each once
abbrev pub invariant-loop-i : goal.invariant-loop-i
invariant-loop-i l = l.lines.keys ≡ each_once (map (witness_text l.scenario) (take l.i (zip l.outcomes l.schedules)))
