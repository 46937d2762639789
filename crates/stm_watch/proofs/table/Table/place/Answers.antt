use Rattle.std.proofs.Common.{◌≡◌, ◌∙◌, ◌++◌, ◌∷◌, [], ℕ, List, Option, Some, ap, length, subst, sym}
use Rattle.stm_watch.specs.declared.watched.Watcher.{Watcher}
use Rattle.stm_watch.specs.Pages.{AreFound, IsGrouped}
use Rattle.stm_watch.proofs.Entered.{entered_kept, entered_more}
use Rattle.stm_watch.proofs.table.Table.place.Goals as goal

pub push-requires-2-clause-list : goal.push-requires-2-clause-list
push-requires-2-clause-list c =
    (c.make_room.ensures.kept c.self.inside.slots c.self.invariant.covers).listed.there c.args.watcher c.list_for-list.result c.list_for-list.ensures

pub invariant_of-self-in_err-add : goal.invariant_of-self-in_err-add
invariant_of-self-in_err-add c =
    subst (λ (ws : List (Option Watcher)). AreFound c.make_room.new.self c.add.new.self ws) (sym c.reserve.ensures)
    (record {
      covers = c.make_room.ensures.kept c.self.inside.slots c.self.invariant.covers;
      entered = entered_kept c.self.inside.groups c.add.new.self c.self.inside.slots c.add.ensures.kept c.self.invariant.entered;
    })

pub invariant_of-self-in_err-push : goal.invariant_of-self-in_err-push
invariant_of-self-in_err-push c =
    subst (λ (ws : List (Option Watcher)). AreFound c.make_room.new.self c.add.new.self ws) (sym (c.in_err-push.ensures.err ∙ c.reserve.ensures))
    (record {
      covers = c.make_room.ensures.kept c.self.inside.slots c.self.invariant.covers;
      entered = entered_kept c.self.inside.groups c.add.new.self c.self.inside.slots c.add.ensures.kept c.self.invariant.entered;
    })

pub invariant_of-self-2 : goal.invariant_of-self-2
invariant_of-self-2 c =
    let slots : List (Option Watcher) = c.self.inside.slots in
    let long : c.len.result ≡ length slots = c.len.ensures ∙ ap (λ (l : List (Option Watcher)). length l) c.reserve.ensures in
    subst (AreFound c.push-2.new.self c.add.new.self)
    (sym (c.in_ok-push.ensures.ok ∙ ap (λ (l : List (Option Watcher)). l ++ Some c.args.watcher ∷ []) c.reserve.ensures))
    (record {
      covers = c.push-2.ensures slots c.args.watcher (c.make_room.ensures.kept slots c.self.invariant.covers) c.list_for-list.ensures;
      entered = entered_more c.add.new.self slots c.args.watcher
          (λ all. subst (λ (n : ℕ). IsGrouped c.add.new.self c.args.watcher.watched n all) long (c.in_ok-add.ensures.ok all))
          (entered_kept c.self.inside.groups c.add.new.self slots c.add.ensures.kept c.self.invariant.entered);
    })
