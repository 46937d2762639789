use Rattle.std.proofs.Common.{◌∙◌, List, Option, None, Err, IfSome, IsSome, ap, slice_index_or, subst, sym}
use Rattle.std.specs.declared.alloc.AllocError.{AllocError}
use Rattle.std.proofs.lemmas.Result.{err_from_is_err_and}
use Rattle.stm_watch.specs.declared.watched.Watcher.{Watcher}
use Rattle.stm_watch.specs.Kept.{Covers}
use Rattle.stm_watch.specs.Pages.{AreEntered, AreFound}
use Rattle.stm_watch.specs.Slots.{IsFollowed, PlacePolls}
use Rattle.stm_watch.proofs.Entered.{entered_polled}
use Rattle.stm_watch.proofs.Placed.{place_refused, polled_some, polled_slot}
use Rattle.stm_watch.proofs.table.Table.poll.Goals as goal

pub poll-requires-clause-there : goal.poll-requires-clause-there
poll-requires-clause-there c = subst (λ ws. IsSome (slice_index_or ws c.args.place None)) (sym c.self.view_is) c.requires.there

pub poll-requires-clause-stands : goal.poll-requires-clause-stands
poll-requires-clause-stands c =
    subst (λ ws. IfSome (slice_index_or ws c.args.place None) (IsFollowed c.args.keys.now.history)) (sym c.self.view_is) c.requires.stands

-- a refusal

pub invariant_of-self : goal.invariant_of-self
invariant_of-self c =
    let some = subst (λ ws. IsSome (slice_index_or ws c.args.place None)) (sym c.self.view_is) c.requires.there in
    subst (λ (ws : List (Option Watcher)). AreFound c.self.inside.index c.self.inside.groups ws)
    (sym (place_refused c.args.keys.now.history c.args.place c.args.most c.self.inside.slots c.poll.new.self c.poll.result c.poll.ensures some
    _ c.in_err-batch.was))
    c.self.invariant

pub returns-in_err-batch : goal.returns-in_err-batch
returns-in_err-batch c =
    let exit = err_from_is_err_and c.from_residual.result c.from_residual.ensures.1 in
    subst (λ r. PlacePolls c.args.keys.now.history c.args.most c.args.place c.args.self.now r c.poll.new.self)
    (c.in_err-batch.was ∙ sym (exit.1 ∙ ap (λ (e : AllocError). Err e) exit.2))
    (subst (λ ws. PlacePolls c.args.keys.now.history c.args.most c.args.place ws c.poll.result c.poll.new.self) c.self.view_is c.poll.ensures)

-- a batch

pub watcher-watcher-requires : goal.watcher-watcher-requires
watcher-watcher-requires c =
    let some = subst (λ ws. IsSome (slice_index_or ws c.args.place None)) (sym c.self.view_is) c.requires.there in
    polled_some c.args.keys.now.history c.args.place c.args.most c.self.inside.slots c.poll.new.self c.poll.result c.poll.ensures some
    c.in_ok-batch.batch c.in_ok-batch.was

pub move_to-requires-clause-there : goal.move_to-requires-clause-there
move_to-requires-clause-there c =
    let some = subst (λ ws. IsSome (slice_index_or ws c.args.place None)) (sym c.self.view_is) c.requires.there in
    (c.self.inside.slots, c.self.invariant.covers, some)

pub move_to-requires-clause-list : goal.move_to-requires-clause-list
move_to-requires-clause-list c = c.self.invariant.covers.listed.there c.watcher-watcher.result.now c.list_for-list.result c.list_for-list.ensures

pub invariant_of-self-2 : goal.invariant_of-self-2
invariant_of-self-2 c =
    let some = subst (λ ws. IsSome (slice_index_or ws c.args.place None)) (sym c.self.view_is) c.requires.there in
    let found = polled_slot c.args.keys.now.history c.args.place c.args.most c.self.inside.slots c.poll.new.self c.poll.result c.poll.ensures some
    c.in_ok-batch.batch c.in_ok-batch.was c.watcher-watcher.result.now c.watcher-watcher.ensures in
    record {
      covers = subst (λ (ws : List (Option Watcher)). Covers c.move_to.new.self ws) (sym found.2)
          (c.move_to.ensures c.self.inside.slots c.watcher-watcher.result.now c.self.invariant.covers some c.list_for-list.ensures);
      entered = subst (AreEntered c.wake.new.self) (sym found.2)
          (entered_polled c.self.inside.groups c.wake.new.self c.self.inside.slots c.args.place found.0 c.watcher-watcher.result.now found.1
          found.3 c.wake.ensures.kept c.wake.ensures.woken c.self.invariant.entered);
    }

pub returns : goal.returns
returns c =
    subst (λ r. PlacePolls c.args.keys.now.history c.args.most c.args.place c.args.self.now r c.poll.new.self) c.in_ok-batch.was
    (subst (λ ws. PlacePolls c.args.keys.now.history c.args.most c.args.place ws c.poll.result c.poll.new.self) c.self.view_is c.poll.ensures)
