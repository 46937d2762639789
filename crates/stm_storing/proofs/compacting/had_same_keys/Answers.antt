use Rattle.std.proofs.Common.{ℕ, List, ap, sym, ◌∙◌}
use Rattle.stm_history.specs.declared.key_state.KeyState.{KeyState}
use Rattle.stm_storing.specs.Past.{state_in}
use Rattle.stm_storing.proofs.compacting.had_same_keys.Goals as goal

pub returns : goal.returns
returns c = λ same key.
    sym (c.in_ok-past.ensures.each key) ∙ ap (λ (es : List (List ℕ × KeyState)). state_in es key) (c.are_same_pasts.ensures same) ∙ c.in_ok-other.ensures.each key
