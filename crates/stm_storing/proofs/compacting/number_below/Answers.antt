use Rattle.std.proofs.Common.{ap, ◌∙◌}
use Rattle.stm_history.specs.History.{History}
use Rattle.stm_txn.specs.Standing.{Standing}
use Rattle.stm_storing.proofs.compacting.number_below.Goals as goal

pub returns : goal.returns
returns c =
    c.below.ensures ∙ ap (λ (h : History). h.opening.number) c.keys.ensures.history ∙ ap (λ (s : Standing). s.history.opening.number) c.store.ensures.standing
