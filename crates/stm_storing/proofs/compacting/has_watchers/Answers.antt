use Rattle.std.proofs.Common.{is_some, ap, ◌∙◌}
use Rattle.std.specs.List.{list_any}
use Rattle.stm_txn.specs.Standing.{Standing}
use Rattle.stm_storing.proofs.compacting.has_watchers.Goals as goal

pub returns : goal.returns
returns c = c.has_watchers.ensures ∙ ap (λ (s : Standing). list_any is_some s.watchers) c.store.ensures.standing
