use Rattle.std.proofs.Common.{◌∙◌, ◌≤◌, ap, map, subst, sym}
use Rattle.stm_history.specs.History.{add_revision}
use Rattle.stm_keys.specs.Events.{change_of_event}
use Rattle.stm_watch.specs.Places.{WatchersView, watchings}
use Rattle.stm_watch.specs.Calls.{StandAll, StandFor}
use Rattle.stm_watch.proofs.Standing.{seen_at, touched_same, touched_stand}
use Rattle.stm_watch.proofs.watchers.Watchers.touched.Goals as goal

pub returns-clause-same : goal.returns-clause-same
returns-clause-same c =
    let le : c.self.inside.floor ≤ c.args.revision = subst (λ (v : WatchersView). v.floor ≤ c.args.revision) (sym c.self.view_is) c.requires in
    ap (seen_at c.self.inside.floor) c.touched.ensures
    ∙ touched_same c.self.inside.floor (map change_of_event c.args.events.now) c.args.revision c.self.inside.table le
    ∙ ap watchings c.self.view_is

pub returns-clause-stand : goal.returns-clause-stand
returns-clause-stand c h stand is =
    let le : c.self.inside.floor ≤ c.args.revision = subst (λ (v : WatchersView). v.floor ≤ c.args.revision) (sym c.self.view_is) c.requires in
    subst (StandAll (add_revision h (map change_of_event c.args.events.now)) c.self.inside.floor) (sym c.touched.ensures)
    (touched_stand h c.self.inside.floor (map change_of_event c.args.events.now) c.args.revision c.self.inside.table is le
    (subst (StandFor h) (sym c.self.view_is) stand))
