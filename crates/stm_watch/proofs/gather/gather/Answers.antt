use Rattle.std.proofs.Common.{◌≡◌, ◌∙◌, ℕ, List, ◌++◌, ap, sym, arith}
use Rattle.stm_history.specs.History.{History}
use Rattle.stm_keys.specs.declared.event.Event.{Event}
use Rattle.stm_keys.specs.Events.{events_of}
use Rattle.stm_watch.specs.declared.pending_revision.PendingRevision.{PendingRevision}
use Rattle.stm_watch.specs.Watching.{Watching}
use Rattle.stm_watch.specs.Pending.{pending, matching}
use Rattle.stm_watch.specs.Slots.{followed}
use Rattle.stm_watch.proofs.Notifying.{head_is}
use Rattle.stm_watch.proofs.Giving.{above_of, none_is, one_more, none_after}
use Rattle.stm_watch.proofs.gather.gather.Goals as goal

pub copy_pending-requires : goal.copy_pending-requires
copy_pending-requires c =
    let h : History = c.args.keys.now.history in
    let w : Watching = followed c.args.watcher.now in
    (head_is h.opening c.loop-count.upto w.watched h.revisions c.in-Some.number (sym c.loop-count.invariant.next_is ∙ c.in-Some.is)).reached

pub loop-count-preserved : goal.loop-count-preserved
loop-count-preserved c =
    let h : History = c.args.keys.now.history in
    let w : Watching = followed c.args.watcher.now in
    let number : ℕ = c.in-Some.number in
    let head = head_is h.opening c.loop-count.upto w.watched h.revisions number (sym c.loop-count.invariant.next_is ∙ c.in-Some.is) in
    let t : PendingRevision = record { number = number; events = matching w.watched (events_of h number) } in
    let joined : c.append.new.self.items ≡ c.loop-count.events.items ++ t.events =
    c.in_ok-append.ensures.items ∙ ap (λ (es : List Event). c.loop-count.events.items ++ es) c.in_ok-reported.ensures in
    record {
      within = omega (arith, c.loop-count-test.true);
      next_is = c.next_number-next.ensures;
      given = one_more (pending h w) (above_of h w) w.seen c.loop-count.count c.loop-count.upto
          c.loop-count.events.items c.append.new.self.items t c.loop-count.invariant.given head.is joined;
    }

pub returns-in_default-clause-next : goal.returns-in_default-clause-next
returns-in_default-clause-next c =
    c.all.ensures.next
    ∙ none_after c.args.most c.args.keys.now.history (followed c.args.watcher.now) c.loop-count.count c.loop-count.events.items c.loop-count.upto
    c.loop-count.invariant.given c.loop-count.invariant.within (sym c.in_default.is ∙ c.loop-count.invariant.next_is)

pub returns-then-is_none-clause-next : goal.returns-then-is_none-clause-next
returns-then-is_none-clause-next c =
    c.all-then-is_none.ensures.next
    ∙ none_after c.args.most c.args.keys.now.history (followed c.args.watcher.now) c.loop-count.count c.loop-count.events.items c.loop-count.upto
    c.loop-count.invariant.given c.loop-count.invariant.within (sym (none_is c.loop-count.next c.if-is_none.ensures) ∙ c.loop-count.invariant.next_is)
