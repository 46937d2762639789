use Rattle.std.proofs.Common.{◌≡◌, length, None}
use Rattle.stm_visited.specs.Answers.{EachIs}
use Rattle.stm_visited.proofs.breaks.none_found.Given as goal

-- as many as rules that were gone through
abbrev pub invariant-loop-index : goal.invariant-loop-index
invariant-loop-index g l = (length l.founds.items ≡ l.index) × EachIs (λ n found. found ≡ None) l.founds.items
