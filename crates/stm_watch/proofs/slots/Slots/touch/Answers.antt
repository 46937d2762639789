use Rattle.std.proofs.Common.{◌≡◌, ◌∙◌, ◌<◌, ◌≤◌, List, Option, None, Some, ap, sym, subst, length, option_map, slice_index_or, slice_set, arith}
use Rattle.stm_watch.specs.Slots.{made_ready}
use Rattle.stm_watch.specs.declared.watched.Watcher.{Watcher}
use Rattle.stm_watch.proofs.At.{read_at}
use Rattle.stm_watch.proofs.Touching.{touched_past, wanted}
use Rattle.stm_watch.proofs.slots.Slots.touch.Goals as goal

pub returns-then-index-len-clause-touched : goal.returns-then-index-len-clause-touched
returns-then-index-len-clause-touched c =
    touched_past c.args.revision c.args.key.now c.args.index c.args.self.now
    (subst (λ (ws : List (Option Watcher)). length ws ≤ c.args.index) c.self.view_is (omega (arith, c.if-index-len.true, c.len.ensures, c.self.inside.watchers.ok.0)))

pub returns-clause-made : goal.returns-clause-made
returns-clause-made c said =
    let ws : List (Option Watcher) = c.self.inside.watchers.items in
    let there : c.args.index < length ws = omega (arith, c.if-index-len.false, c.len.ensures, c.self.inside.watchers.ok.0) in
    let read = c.index.ensures ∙ read_at ws c.args.index c.index.result.now there in
    let found = c.index_mut.ensures.value ∙ read_at ws c.args.index c.index_mut.result.now there in
    let made = wanted c.args.revision c.args.key.now c.index.result.now (sym c.wants.ensures ∙ c.if-not-wants.false) in (
      made.0,
      subst (λ (l : List (Option Watcher)). slice_index_or l c.args.index None ≡ Some made.0) c.self.view_is (sym read ∙ made.1),
      ap (slice_set ws c.args.index) (c.make_ready.ensures ∙ ap (option_map (made_ready c.args.revision)) (found ∙ sym read ∙ made.1))
          ∙ ap (λ (l : List (Option Watcher)). slice_set l c.args.index (Some (made_ready c.args.revision made.0))) c.self.view_is,
    )
