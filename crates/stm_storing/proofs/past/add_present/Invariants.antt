use Rattle.std.proofs.Common.{List, ℕ}
use Rattle.stm_history.specs.declared.key_state.KeyState.{KeyState}
use Rattle.stm_storing.specs.Past.{Adds, StandsBelow}
use Rattle.stm_storing.proofs.past.add_present.Given as goal

-- the keys so far were added
abbrev pub invariant-loop-index : goal.invariant-loop-index
invariant-loop-index l =
    Adds l.keys.history l.revision (StandsBelow (λ (p : List ℕ × KeyState). p.0) l.keys.present l.index) l.fn.past.entries l.past.entries
