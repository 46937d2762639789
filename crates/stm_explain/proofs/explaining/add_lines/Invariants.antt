use Rattle.std.proofs.Common.{string_bytes}
use Rattle.stm_explain.specs.Explaining.{AreExplanations}
use Rattle.stm_explain.proofs.explaining.add_lines.Given as goal

-- what was said is lines of explanation
abbrev pub invariant-loop-fault : goal.invariant-loop-fault
invariant-loop-fault l = AreExplanations l.read.name.now l.read.text.now (string_bytes l.said)
