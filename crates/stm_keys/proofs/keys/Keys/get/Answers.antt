use Rattle.std.proofs.Common.{◌≤◌, ◌∙◌, reverse, subst, ap}
use Rattle.indexmap.specs.IndexMap.{get_by_text}
use Rattle.stm_history.specs.declared.revisions.TheConstants.{HIGHEST_REVISION}
use Rattle.stm_history.specs.Opening.{Opening}
use Rattle.stm_history.specs.History.{now, key_now}
use Rattle.stm_keys.specs.Keys.{Contents}
use Rattle.stm_keys.specs.Chains.{opening_of}
use Rattle.stm_keys.proofs.Walked.{found_all, searchable}
use Rattle.stm_keys.proofs.Numbers.{now_fits, now_small}
use Rattle.stm_keys.proofs.keys.Keys.get.Goals as goal

pub find_now-requires : goal.find_now-requires
find_now-requires c =
    searchable (opening_of c.self.inside.below c.self.inside.chains) c.self.inside.revisions.items (get_by_text c.self.inside.chains) c.self.invariant.0

pub returns-clause-value : goal.returns-clause-value
returns-clause-value c =
    let opening : Opening = opening_of c.self.inside.below c.self.inside.chains in
    c.find_now.ensures
    ∙ found_all opening c.self.inside.revisions.items (get_by_text c.self.inside.chains) c.args.key.now c.self.invariant.0
    ∙ ap (λ (v : Contents). key_now v.history c.args.key.now) c.self.view_is

pub returns-clause-fits : goal.returns-clause-fits
returns-clause-fits c =
    now_small c.args.self.now.history c.args.key.now
    (subst (λ (v : Contents). now v.history ≤ HIGHEST_REVISION) c.self.view_is
    (now_fits (opening_of c.self.inside.below c.self.inside.chains) (reverse c.self.inside.revisions.items) (get_by_text c.self.inside.chains)
    c.self.invariant.0))
