use Rattle.std.proofs.Common.{ap, ◌∙◌}
use Rattle.stm_history.specs.History.{now}
use Rattle.stm_storing.proofs.CompactLemmas.{floor_asked}
use Rattle.stm_storing.proofs.compacting.floor_of.Goals as goal

pub returns-clause-asked : goal.returns-clause-asked
returns-clause-asked c =
    c.unwrap_or-floor.ensures ∙ floor_asked c.args.asked c.args.store.now.standing c.revision-revision.result (c.revision-revision.ensures.value ∙ ap now c.keys.ensures.history)
