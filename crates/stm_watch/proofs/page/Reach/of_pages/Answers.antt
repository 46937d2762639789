use Rattle.std.proofs.Common.{◌≡◌, ◌∙◌, ◌+◌, ◌++◌, ◌∷◌, [], List, ap, inl, inr, subst, sym, take}
use Rattle.std.proofs.lemmas.Grind.{take_at_read}
use Rattle.std.proofs.lemmas.List.{take_all}
use Rattle.stm_watch.specs.declared.page.Page.{Page}
use Rattle.stm_watch.specs.Pages.{HasEntry, StandsOn}
use Rattle.stm_watch.proofs.Entered.{any-parts}
use Rattle.stm_watch.proofs.page.Reach.of_pages.Goals as goal

pub loop-page-init : goal.loop-page-init
loop-page-init c ws e any = absurd any

pub loop-page-preserved : goal.loop-page-preserved
loop-page-preserved c ws e any =
    let pages : List Page = c.args.pages.now in
    let x : Page = c.page-item.result in
    let one : take (c.loop-page.page-index + 1) pages ≡ take c.loop-page.page-index pages ++ x ∷ [] =
    (take_at_read pages c.loop-page.page-index x c.loop-page-test.true).1
    ∙ ap (λ (y : Page). take c.loop-page.page-index pages ++ y ∷ []) (sym c.page-item.is) in
    elim (any-parts (StandsOn ws e) (take c.loop-page.page-index pages) (x ∷ []) (subst (λ (l : List Page). HasEntry ws l e) one any)) [
      | inl before ↦ c.include_all.ensures.kept ws e (c.loop-page.invariant ws e before)
      | inr last ↦ elim last [ inl here ↦ c.in_ok-include_all.ensures.ok ws e here.met | inr nothing ↦ absurd nothing ]
    ]

pub returns : goal.returns
returns c ws e any =
    c.loop-page.invariant ws e (subst (λ (l : List Page). HasEntry ws l e) (sym (take_all c.loop-page.page-index c.args.pages.now c.loop-page-test.false)) any)
