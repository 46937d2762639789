use Rattle.std.proofs.Common.{◌∙◌, reverse, ap}
use Rattle.stm_history.specs.Opening.{opened_state}
use Rattle.stm_keys.specs.Keys.{Contents}
use Rattle.stm_keys.specs.Chains.{Versions, opening_of}
use Rattle.stm_keys.proofs.Walked.{before_opened}
use Rattle.stm_keys.proofs.keys.Keys.state_before.Goals as goal

pub returns : goal.returns
returns c =
    c.find_before.ensures
    ∙ ap (λ (v : Versions). v.before) (c.self.invariant.0.versions c.args.key.now)
    ∙ before_opened (opening_of c.self.inside.below c.self.inside.chains) c.args.key.now (reverse c.self.inside.revisions.items)
    ∙ ap (λ (v : Contents). opened_state v.history.opening c.args.key.now) c.self.view_is
