use Rattle.std.proofs.Common.{◌≡◌, ◌-◌, length}
use Rattle.stm_source.specs.Events.{names_from}
use Rattle.stm_source.proofs.starts.new_names.Given as goal

-- what is left leads to all
abbrev pub invariant-loop-done : goal.invariant-loop-done
invariant-loop-done l = names_from (length l.fn.tokens - l.done) l.done l.names l.rest ≡ names_from (length l.fn.tokens) 0 l.fn.names l.fn.tokens
