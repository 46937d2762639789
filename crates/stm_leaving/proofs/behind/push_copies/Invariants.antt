use Rattle.std.proofs.Common.{◌≡◌, ◌++◌, drop}
use Rattle.stm_leaving.proofs.behind.push_copies.Given as goal

-- those so far, and those that are left
abbrev pub invariant-loop-statement : goal.invariant-loop-statement
invariant-loop-statement l = l.all.items ++ drop l.statement-index l.statements ≡ l.fn.all.items ++ l.statements
