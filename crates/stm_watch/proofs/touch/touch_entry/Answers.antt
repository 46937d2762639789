use Rattle.std.proofs.Common.{List, Option, IsSome, refl, sym, subst}
use Rattle.stm_watch.specs.declared.watched.Watcher.{Watcher}
use Rattle.stm_watch.specs.Kept.{Covers}
use Rattle.stm_watch.specs.Pages.{Reaches}
use Rattle.stm_watch.specs.Slots.{made_ready}
use Rattle.stm_watch.proofs.Indexed.{ready_there}
use Rattle.stm_watch.proofs.Touching.{touched_one}
use Rattle.stm_watch.proofs.touch.touch_entry.Goals as goal

pub move_to-requires-clause-there : goal.move_to-requires-clause-there
move_to-requires-clause-there c =
    let made = c.touch.ensures.made c.if-touch.true in
    (c.args.slots.now, c.requires, subst IsSome (sym made.1) refl)

pub move_to-requires-clause-list : goal.move_to-requires-clause-list
move_to-requires-clause-list c =
    ready_there c.args.index.now.idle c.args.index.now.ready c.args.index.now.lists c.args.index.now.nodes.items c.args.slots.now c.requires

pub returns-then-touch-clause-slots : goal.returns-then-touch-clause-slots
returns-then-touch-clause-slots c =
    touched_one c.args.revision c.args.key.now (λ i. Reaches c.args.key.now i c.args.entry.now) c.args.entry.now.place c.args.slots.now c.touch.new.self
    c.touch.ensures.touched (λ i reached. reached.0)

pub returns-else-touch-clause-slots : goal.returns-else-touch-clause-slots
returns-else-touch-clause-slots c =
    touched_one c.args.revision c.args.key.now (λ i. Reaches c.args.key.now i c.args.entry.now) c.args.entry.now.place c.args.slots.now c.touch.new.self
    c.touch.ensures.touched (λ i reached. reached.0)

pub returns-then-touch-clause-covers : goal.returns-then-touch-clause-covers
returns-then-touch-clause-covers c =
    let made = c.touch.ensures.made c.if-touch.true in
    subst (λ (ws : List (Option Watcher)). Covers c.move_to.new.self ws) (sym made.2)
    (c.move_to.ensures c.args.slots.now (made_ready c.args.revision made.0) c.requires (subst IsSome (sym made.1) refl) refl)

pub returns-else-touch-clause-covers : goal.returns-else-touch-clause-covers
returns-else-touch-clause-covers c =
    subst (λ (ws : List (Option Watcher)). Covers c.args.index.now ws) (sym (c.touch.ensures.same c.if-touch.false)) c.requires
