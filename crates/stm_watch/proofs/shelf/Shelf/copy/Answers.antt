use Rattle.std.proofs.Common.{List, subst, sym}
use Rattle.stm_watch.specs.declared.page.Page.{Page}
use Rattle.stm_watch.specs.Pages.{HasEntry}
use Rattle.stm_watch.proofs.Copied.{keeps_copied}
use Rattle.stm_watch.proofs.Entered.{unsettled_shelf}
use Rattle.stm_watch.proofs.shelf.Shelf.copy.Goals as goal

pub returns : goal.returns
returns c ws e had =
    unsettled_shelf ws e _ c.unsettled.ensures.until (subst (λ (pages : List Page). HasEntry ws pages e) (sym c.unsettled.ensures.pages)
    (keeps_copied c.args.self.now.pages.items c.in_ok-pages.pages.items c.in_ok-pages.ensures.cases.0 ws e had.there))
