use Rattle.std.proofs.Common.{◌≡◌, ◌++◌, ◌-◌}
use Rattle.stm_source.specs.Definitions.{open_given}
use Rattle.stm_source.specs.Wanted.{given_at}
use Rattle.stm_source.proofs.wanted.given_at.Given as goal

-- the arguments so far, and those that are left
abbrev pub invariant-loop-done : goal.invariant-loop-done
invariant-loop-done l = l.given ++ open_given (l.fn.behind - l._done) ≡ given_at l.fn.before l.fn.argument l.fn.behind
