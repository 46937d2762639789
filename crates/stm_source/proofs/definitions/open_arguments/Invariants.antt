use Rattle.std.proofs.Common.{◌≡◌, ◌++◌, ◌-◌}
use Rattle.stm_source.specs.Definitions.{open_given}
use Rattle.stm_source.proofs.definitions.open_arguments.Given as goal

-- those so far, and those that are left
abbrev pub invariant-loop-done : goal.invariant-loop-done
invariant-loop-done l = l.given ++ open_given (l.fn.times - l._done) ≡ open_given l.fn.times
