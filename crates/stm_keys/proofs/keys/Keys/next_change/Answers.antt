use Rattle.std.proofs.Common.{◌∙◌, reverse, ap}
use Rattle.indexmap.specs.IndexMap.{get_by_text}
use Rattle.stm_keys.specs.Keys.{Contents}
use Rattle.stm_keys.specs.NextChange.{next_change}
use Rattle.stm_keys.specs.Chains.{opening_of}
use Rattle.stm_keys.proofs.Walked.{searchable}
use Rattle.stm_keys.proofs.Later.{next_found}
use Rattle.stm_keys.proofs.keys.Keys.next_change.Goals as goal

pub find_number_from-requires : goal.find_number_from-requires
find_number_from-requires c =
    (searchable (opening_of c.self.inside.below c.self.inside.chains) c.self.inside.revisions.items (get_by_text c.self.inside.chains)
    c.self.invariant.0).rising c.args.key.now

pub returns : goal.returns
returns c =
    c.find_number_from.ensures
    ∙ next_found (opening_of c.self.inside.below c.self.inside.chains) c.args.above c.saturating_add.result (reverse c.self.inside.revisions.items)
    (get_by_text c.self.inside.chains) c.args.key.now c.self.invariant.0 c.saturating_add.ensures
    ∙ ap (λ (v : Contents). next_change v.history c.args.key.now c.args.above) c.self.view_is
