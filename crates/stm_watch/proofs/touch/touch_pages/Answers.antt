use Rattle.std.proofs.Common.{◌≡◌, ◌∙◌, ◌+◌, ◌++◌, ◌∷◌, [], List, ap, subst, sym, take}
use Rattle.std.proofs.lemmas.Grind.{take_at_read}
use Rattle.std.proofs.lemmas.List.{take_all}
use Rattle.stm_watch.specs.declared.page.Page.{Page}
use Rattle.stm_watch.specs.Pages.{IsAny, IsTouched, ReachesOn}
use Rattle.stm_watch.proofs.Touching.{touched_none, touched_more}
use Rattle.stm_watch.proofs.touch.touch_pages.Goals as goal

pub loop-page-init : goal.loop-page-init
loop-page-init c = record {
  touched = touched_none c.args.revision c.args.key.now (λ i. IsAny (ReachesOn c.args.revision c.args.key.now i) []) c.args.slots.now (λ i any. any);
  covers = c.requires;
}

pub loop-page-preserved : goal.loop-page-preserved
loop-page-preserved c =
    let pages : List Page = c.args.pages.now in
    let x : Page = c.page-item.result in
    let one : take (c.loop-page.page-index + 1) pages ≡ take c.loop-page.page-index pages ++ x ∷ [] =
    (take_at_read pages c.loop-page.page-index x c.loop-page-test.true).1
    ∙ ap (λ (y : Page). take c.loop-page.page-index pages ++ y ∷ []) (sym c.page-item.is) in
    record {
      touched = touched_more c.args.revision c.args.key.now (ReachesOn c.args.revision c.args.key.now) (take c.loop-page.page-index pages)
          (take (c.loop-page.page-index + 1) pages) x c.args.slots.now c.loop-page.slots c.touch_page.new.slots one c.loop-page.invariant.touched
          c.touch_page.ensures.slots;
      covers = c.touch_page.ensures.covers;
    }

pub returns-clause-slots : goal.returns-clause-slots
returns-clause-slots c =
    subst (λ (xs : List Page). IsTouched c.args.revision c.args.key.now (λ i. IsAny (ReachesOn c.args.revision c.args.key.now i) xs) c.args.slots.now c.loop-page.slots)
    (take_all c.loop-page.page-index c.args.pages.now c.loop-page-test.false) c.loop-page.invariant.touched
