use Rattle.std.proofs.Common.{◌≡◌, ◌∙◌, ℕ, Some, ap, arith, refl, subst, sym}
use Rattle.stm_history.specs.History.{History}
use Rattle.stm_watch.specs.declared.watched.Watcher.{Watcher}
use Rattle.stm_watch.specs.Places.{WatchersView, watching_of}
use Rattle.stm_watch.specs.Calls.{Stands}
use Rattle.stm_watch.specs.Slots.{awaiting}
use Rattle.stm_watch.proofs.Losing.{now_watching, late_watching, lost_watching, lost_stands}
use Rattle.stm_watch.proofs.watchers.Watchers.started.Goals as goal

pub returns-then-from-eq0-clause-watching : goal.returns-then-from-eq0-clause-watching
returns-then-from-eq0-clause-watching c =
    let h : History = c.args.keys.now.history in
    let floor : ℕ = c.args.self.now.floor in
    ap (watching_of floor) (c.waiting.ensures ∙ ap (awaiting h c.args.watched) c.revision.ensures.value)
    ∙ now_watching h floor c.args.watched c.args.from c.if-from-eq0.true

pub returns-then-from-eq0-clause-stands : goal.returns-then-from-eq0-clause-stands
returns-then-from-eq0-clause-stands c =
    subst (λ (w : Watcher). Stands c.args.keys.now.history c.args.self.now.floor (Some w)) (sym c.waiting.ensures) (λ still. refl)

pub returns-then-from-self-clause-watching : goal.returns-then-from-self-clause-watching
returns-then-from-self-clause-watching c =
    let floor : c.self.inside.floor ≡ c.args.self.now.floor = ap (λ (v : WatchersView). v.floor) c.self.view_is in
    lost_watching c.args.keys.now.history c.args.self.now.floor c.args.watched c.args.from (omega (arith, c.if-from-eq0.false))
    (omega (arith, c.if-from-self.true, floor))

pub returns-then-from-self-clause-stands : goal.returns-then-from-self-clause-stands
returns-then-from-self-clause-stands c =
    let floor : c.self.inside.floor ≡ c.args.self.now.floor = ap (λ (v : WatchersView). v.floor) c.self.view_is in
    lost_stands c.args.keys.now.history c.args.self.now.floor c.args.from _ c.args.watched (omega (arith, c.if-from-self.true, floor))

pub returns-clause-watching : goal.returns-clause-watching
returns-clause-watching c =
    let floor : c.self.inside.floor ≡ c.args.self.now.floor = ap (λ (v : WatchersView). v.floor) c.self.view_is in
    ap (watching_of c.args.self.now.floor) c.waiting-2.ensures
    ∙ late_watching c.args.keys.now.history c.args.self.now.floor c.args.watched c.args.from (omega (arith, c.if-from-eq0.false))
    (omega (arith, c.if-from-self.false, floor))

pub returns-clause-stands : goal.returns-clause-stands
returns-clause-stands c =
    subst (λ (w : Watcher). Stands c.args.keys.now.history c.args.self.now.floor (Some w)) (sym c.waiting-2.ensures) (λ still. refl)
