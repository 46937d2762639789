use Rattle.std.proofs.Common.{List, subst, sym}
use Rattle.stm_watch.specs.declared.page.Page.{Page}
use Rattle.stm_watch.specs.Pages.{HasEntry}
use Rattle.stm_watch.proofs.shelf.Shelf.sum_up.Goals as goal

pub returns-in-Ok : goal.returns-in-Ok
returns-in-Ok c ws e had = record {
  met = c.in-Ok.ensures ws e (subst (λ (pages : List Page). HasEntry ws pages e) (sym c.as_slice.ensures.value) had.there);
  there = had.there;
}
