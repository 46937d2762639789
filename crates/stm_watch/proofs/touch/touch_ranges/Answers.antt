use Rattle.std.proofs.Common.{List, subst}
use Rattle.stm_watch.specs.declared.shelf.Shelf.{Shelf}
use Rattle.stm_watch.specs.Pages.{IsAny, IsTouched, ReachesOver}
use Rattle.stm_watch.proofs.touch.touch_ranges.Goals as goal

pub ready_count-before-requires : goal.ready_count-before-requires
ready_count-before-requires c = (c.args.slots.now, c.requires)

pub ready_count-after-requires : goal.ready_count-after-requires
ready_count-after-requires c = (c.touch_shelves.new.slots, c.touch_shelves.ensures.covers)

pub returns-then-after-before-clause-slots : goal.returns-then-after-before-clause-slots
returns-then-after-before-clause-slots c =
    subst (λ (xs : List Shelf). IsTouched c.args.revision c.args.key.now (λ i. IsAny (ReachesOver c.args.revision c.args.key.now i) xs)
    c.args.slots.now c.touch_shelves.new.slots) c.as_slice.ensures.value c.touch_shelves.ensures.slots

pub returns-else-after-before-clause-slots : goal.returns-else-after-before-clause-slots
returns-else-after-before-clause-slots c =
    subst (λ (xs : List Shelf). IsTouched c.args.revision c.args.key.now (λ i. IsAny (ReachesOver c.args.revision c.args.key.now i) xs)
    c.args.slots.now c.touch_shelves.new.slots) c.as_slice.ensures.value c.touch_shelves.ensures.slots
