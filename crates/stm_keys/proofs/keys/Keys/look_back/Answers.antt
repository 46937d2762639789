use Rattle.std.proofs.Common.{◌+◌, ◌∙◌, refl, ap}
use Rattle.indexmap.specs.IndexMap.{get_by_text}
use Rattle.stm_history.specs.Opening.{Opening}
use Rattle.stm_history.specs.History.{key_at}
use Rattle.stm_keys.specs.Keys.{Contents}
use Rattle.stm_keys.specs.Chains.{opening_of}
use Rattle.stm_keys.proofs.Walked.{found_then, searchable}
use Rattle.stm_keys.proofs.keys.Keys.look_back.Goals as goal

pub find_state-requires : goal.find_state-requires
find_state-requires c =
    searchable (opening_of c.self.inside.below c.self.inside.chains) c.self.inside.revisions.items (get_by_text c.self.inside.chains) c.self.invariant.0

pub returns : goal.returns
returns c =
    let opening : Opening = opening_of c.self.inside.below c.self.inside.chains in
    c.find_state.ensures
    ∙ found_then opening c.args.revision c.self.inside.revisions.items (get_by_text c.self.inside.chains) c.args.key.now (c.args.revision + 1)
    c.self.invariant.0 refl
    ∙ ap (λ (v : Contents). key_at v.history c.args.key.now c.args.revision) c.self.view_is
