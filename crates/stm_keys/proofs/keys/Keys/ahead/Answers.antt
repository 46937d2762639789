use Rattle.std.proofs.Common.{◌≤◌, sym, subst}
use Rattle.indexmap.specs.IndexMap.{get_by_text}
use Rattle.stm_keys.specs.Keys.{Contents}
use Rattle.stm_keys.specs.Chains.{opening_of}
use Rattle.stm_keys.specs.NextChange.{is_between}
use Rattle.stm_keys.specs.Runs.{IsPassed}
use Rattle.stm_keys.proofs.Ranges.{ahead_in}
use Rattle.stm_keys.proofs.keys.Keys.ahead.Goals as goal

pub returns : goal.returns
returns c =
    let opened = subst (λ (v : Contents). v.history.opening.number ≤ c.args.passed) (sym c.self.view_is) c.requires in
    subst (λ (v : Contents). IsPassed v.history (is_between c.args.first.now c.args.end.now) c.args.passed c.ahead.result) c.self.view_is
    (ahead_in (opening_of c.self.inside.below c.self.inside.chains) c.self.inside.revisions.items (get_by_text c.self.inside.chains)
    (is_between c.args.first.now c.args.end.now) c.args.passed c.self.invariant.0 opened c.ahead.result
    (c.ahead.ensures c.self.inside.below c.self.inside.revisions.items opened c.self.invariant.3))
