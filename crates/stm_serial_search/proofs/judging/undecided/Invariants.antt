use Rattle.std.proofs.Common.{◌≡◌, ◌++◌, drop}
use Rattle.stm_serial_search.specs.Replaying.{undecided}
use Rattle.stm_serial_search.proofs.judging.undecided.Given as goal

-- those so far, followed by those among the rules that are left
abbrev pub invariant-loop-index : goal.invariant-loop-index
invariant-loop-index l = l.left.items ++ undecided (drop l.index l.rules) (drop l.index l.judged) ≡ undecided l.rules l.judged
