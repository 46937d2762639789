use Rattle.std.proofs.Common.{◌∙◌, ◌≤◌, ap, subst, sym}
use Rattle.stm_watch.specs.Places.{WatchersView, watchings}
use Rattle.stm_watch.specs.Calls.{StandFor, compacted}
use Rattle.stm_watch.proofs.Losing.{compacted_same, compacted_stand, cut_stand}
use Rattle.stm_watch.proofs.watchers.Watchers.compacted.Goals as goal

pub returns-clause-watchings : goal.returns-clause-watchings
returns-clause-watchings c h stand =
    let le : c.self.inside.floor ≤ c.args.revision = subst (λ (v : WatchersView). v.floor ≤ c.args.revision) (sym c.self.view_is) c.requires in
    compacted_same h c.self.inside.floor c.args.revision c.self.inside.table le (subst (StandFor h) (sym c.self.view_is) stand)
    ∙ ap (λ (v : WatchersView). compacted h c.args.revision (watchings v)) c.self.view_is

pub returns-clause-stand : goal.returns-clause-stand
returns-clause-stand c h stand =
    let le : c.self.inside.floor ≤ c.args.revision = subst (λ (v : WatchersView). v.floor ≤ c.args.revision) (sym c.self.view_is) c.requires in
    compacted_stand h c.self.inside.floor c.args.revision c.self.inside.table le (subst (StandFor h) (sym c.self.view_is) stand)

pub returns-clause-cut : goal.returns-clause-cut
returns-clause-cut c h stand reached =
    let le : c.self.inside.floor ≤ c.args.revision = subst (λ (v : WatchersView). v.floor ≤ c.args.revision) (sym c.self.view_is) c.requires in
    cut_stand h c.args.revision c.self.inside.table reached
    (compacted_stand h c.self.inside.floor c.args.revision c.self.inside.table le (subst (StandFor h) (sym c.self.view_is) stand))
