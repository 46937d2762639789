use Rattle.std.proofs.Common.{◌≡◌, ◌∙◌, ◌+◌, ◌++◌, ◌∷◌, [], List, ap, subst, sym, take}
use Rattle.std.proofs.lemmas.Grind.{take_at_read}
use Rattle.std.proofs.lemmas.List.{take_all}
use Rattle.stm_watch.specs.declared.shelf.Shelf.{Shelf}
use Rattle.stm_watch.specs.Pages.{IsAny, IsTouched, ReachesOver}
use Rattle.stm_watch.proofs.Touching.{touched_none, touched_more}
use Rattle.stm_watch.proofs.touch.touch_shelves.Goals as goal

pub loop-shelf-init : goal.loop-shelf-init
loop-shelf-init c = record {
  touched = touched_none c.args.revision c.args.key.now (λ i. IsAny (ReachesOver c.args.revision c.args.key.now i) []) c.args.slots.now (λ i any. any);
  covers = c.requires;
}

pub loop-shelf-preserved : goal.loop-shelf-preserved
loop-shelf-preserved c =
    let shelves : List Shelf = c.args.shelves.now in
    let x : Shelf = c.shelf-item.result in
    let one : take (c.loop-shelf.shelf-index + 1) shelves ≡ take c.loop-shelf.shelf-index shelves ++ x ∷ [] =
    (take_at_read shelves c.loop-shelf.shelf-index x c.loop-shelf-test.true).1
    ∙ ap (λ (y : Shelf). take c.loop-shelf.shelf-index shelves ++ y ∷ []) (sym c.shelf-item.is) in
    record {
      touched = touched_more c.args.revision c.args.key.now (ReachesOver c.args.revision c.args.key.now) (take c.loop-shelf.shelf-index shelves)
          (take (c.loop-shelf.shelf-index + 1) shelves) x c.args.slots.now c.loop-shelf.slots c.touch_shelf.new.slots one c.loop-shelf.invariant.touched
          c.touch_shelf.ensures.slots;
      covers = c.touch_shelf.ensures.covers;
    }

pub returns-clause-slots : goal.returns-clause-slots
returns-clause-slots c =
    subst (λ (xs : List Shelf). IsTouched c.args.revision c.args.key.now (λ i. IsAny (ReachesOver c.args.revision c.args.key.now i) xs) c.args.slots.now c.loop-shelf.slots)
    (take_all c.loop-shelf.shelf-index c.args.shelves.now c.loop-shelf-test.false) c.loop-shelf.invariant.touched
