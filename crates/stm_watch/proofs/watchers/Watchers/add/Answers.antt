use Rattle.std.proofs.Common.{◌≡◌, ◌∙◌, ◌+◌, ◌++◌, [], ◌∷◌, ℕ, List, Option, Some, ap, arith, length, length-append, subst, sym}
use Rattle.stm_history.specs.History.{History}
use Rattle.stm_watch.specs.declared.watched.Watcher.{Watcher}
use Rattle.stm_watch.specs.Watching.{Watching}
use Rattle.stm_watch.specs.Places.{WatchersView, watching_of, watchings}
use Rattle.stm_watch.specs.Pending.{watching_from}
use Rattle.stm_watch.specs.Calls.{Stands, StandAll, StandFor}
use Rattle.stm_watch.proofs.Standing.{seen_at, stand_with, watchings_with}
use Rattle.stm_watch.proofs.watchers.Watchers.add.Goals as goal

pub returns-clause-ok : goal.returns-clause-ok
returns-clause-ok c =
    let floor : ℕ = c.self.inside.floor in
    let places : List (Option Watcher) = c.self.inside.table in
    let w : Watcher = c.started-watcher.result in
    let long : length c.place.new.self ≡ length places + 1 =
    ap (λ (ws : List (Option Watcher)). length ws) c.in_ok-place.ensures.ok ∙ length-append places (Some w ∷ []) in
    let was : length places ≡ length c.args.self.now.places = ap (λ (v : WatchersView). length v.places) c.self.view_is in
    let watching : watching_of floor w ≡ watching_from c.args.keys.now.history c.args.self.now.floor c.args.watched c.args.from =
    ap (λ (v : WatchersView). watching_of v.floor w) c.self.view_is ∙ c.started-watcher.ensures.watching in (
      omega (arith, long, was, c.len.ensures),
      ap (seen_at floor) c.in_ok-place.ensures.ok
          ∙ watchings_with floor places w
          ∙ ap (λ (x : Watching). seen_at floor places ++ Some x ∷ []) watching
          ∙ ap (λ (v : WatchersView). watchings v ++ Some (watching_from c.args.keys.now.history c.args.self.now.floor c.args.watched c.args.from) ∷ []) c.self.view_is,
    )

pub returns-clause-stand : goal.returns-clause-stand
returns-clause-stand c =
    let h : History = c.args.keys.now.history in
    let w : Watcher = c.started-watcher.result in
    subst (StandAll h c.self.inside.floor) (sym c.in_ok-place.ensures.ok)
    (stand_with h c.self.inside.floor c.self.inside.table (Some w) (subst (StandFor h) (sym c.self.view_is) c.requires)
    (subst (λ (v : WatchersView). Stands h v.floor (Some w)) (sym c.self.view_is) c.started-watcher.ensures.stands))
