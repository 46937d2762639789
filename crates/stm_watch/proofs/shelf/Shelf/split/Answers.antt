use Rattle.std.proofs.Common.{inl, inr, List, refl, subst, sym}
use Rattle.stm_watch.specs.declared.page.Page.{Page}
use Rattle.stm_watch.specs.Pages.{HasEntry, StandsOn}
use Rattle.stm_watch.proofs.Entered.{any-left, any-parts, unsettled_shelf}
use Rattle.stm_watch.proofs.shelf.Shelf.split.Goals as goal

pub returns-clause-ok : goal.returns-clause-ok
returns-clause-ok c ws e had =
    let all = subst (λ (pages : List Page). HasEntry ws pages e) (sym c.move_half.ensures)
    (any-left (StandsOn ws e) c.args.self.now.pages.items c.in_ok-pages.pages.items had.there) in
    elim (any-parts (StandsOn ws e) c.move_half.new.entries.items c.move_half.new.upper.items all) [
      | inl left ↦ inl (unsettled_shelf ws e _ refl left)
      | inr right ↦ inr (unsettled_shelf ws e _ c.unsettled.ensures.until
          (subst (λ (pages : List Page). HasEntry ws pages e) (sym c.unsettled.ensures.pages) right))
    ]
