use Rattle.std.proofs.Common.{◌∙◌, ℕ, None, ap, slice_set, subst, sym}
use Rattle.stm_watch.specs.Places.{WatchersView, watchings}
use Rattle.stm_watch.specs.Calls.{StandAll, StandFor, cancelled}
use Rattle.stm_watch.proofs.Standing.{seen_at, stand_set, watchings_set}
use Rattle.stm_watch.proofs.watchers.Watchers.cancel.Goals as goal

pub returns-clause-ok : goal.returns-clause-ok
returns-clause-ok c =
    let floor : ℕ = c.self.inside.floor in
    ap (seen_at floor) c.remove.ensures
    ∙ watchings_set floor c.self.inside.table c.in-Some.place None
    ∙ ap (λ (k : ℕ). slice_set (seen_at floor c.self.inside.table) k None) c.in-Some.ensures.1
    ∙ ap (λ (v : WatchersView). cancelled c.args.id (watchings v)) c.self.view_is

pub returns-clause-stand : goal.returns-clause-stand
returns-clause-stand c h stand =
    subst (StandAll h c.self.inside.floor) (sym c.remove.ensures)
    (stand_set h c.self.inside.floor c.self.inside.table c.in-Some.place None (subst (StandFor h) (sym c.self.view_is) stand) tt)
