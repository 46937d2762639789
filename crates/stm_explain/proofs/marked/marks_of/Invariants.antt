use Rattle.std.specs.List.{All}
use Rattle.stm_explain.specs.Marks.{IsMark}
use Rattle.stm_explain.proofs.marked.marks_of.Given as goal

-- the marks so far, and that from which the next is counted on
abbrev pub invariant-loop : goal.invariant-loop
invariant-loop l = IsMark l.text l.mark × All (IsMark l.text) l.marks.items
