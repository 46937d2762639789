use Rattle.std.proofs.Common.{◌≡◌, drop}
use Rattle.stm_history.specs.History.{key_now}
use Rattle.stm_outcome.specs.Compares.{first_failed}
use Rattle.stm_outcome.proofs.compare.find_failed.Given as goal

-- the first failed compare is looked for in the rest
abbrev pub invariant-loop-index : goal.invariant-loop-index
invariant-loop-index l = first_failed (key_now l.keys.history) l.index (drop l.index l.compares) ≡ first_failed (key_now l.keys.history) 0 l.compares
