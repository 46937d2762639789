use Rattle.std.proofs.Common.{◌≡◌, map, take}
use Rattle.stm_compile.specs.CommitTxn.{is_as_read}
use Rattle.stm_compile.proofs.commit.read_compares.Given as goal

-- a compare for each answer so far
abbrev pub invariant-loop-answer : goal.invariant-loop-answer
invariant-loop-answer l = l.compares.items ≡ map is_as_read (take l.answer-index l.answers)
