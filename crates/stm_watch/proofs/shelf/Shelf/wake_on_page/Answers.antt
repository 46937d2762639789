use Rattle.std.proofs.Common.{◌∙◌, ◌<◌, List, length, vec_len, arith, refl, rules, subst, sym}
use Rattle.stm_watch.specs.declared.page.Page.{Page}
use Rattle.stm_watch.specs.Pages.{StandsOn, IsOneOf, IsEntryOf}
use Rattle.stm_watch.proofs.At.{read_same}
use Rattle.stm_watch.proofs.Entered.{any-set, any-at, any-found, unsettled_shelf, unsettled}
use Rattle.stm_watch.proofs.shelf.Shelf.wake_on_page.Goals as goal

pub returns-clause-kept : goal.returns-clause-kept
returns-clause-kept c ws e had =
    unsettled_shelf ws e _ refl
    (any-set (StandsOn ws e) c.args.self.now.pages.items c.page_of-at.result _ c.index_mut.result.now
    (λ stands. unsettled ws e _ refl (subst (StandsOn ws e) (sym c.index_mut.ensures.value) stands).there) had.there)

pub returns-clause-woken : goal.returns-clause-woken
returns-clause-woken c same ws =
    let pages : List Page = c.args.self.now.pages.items in
    let some : 0 < vec_len c.args.self.now.pages = search rules in
    let below : c.page_of-at.result < length pages = omega (arith, c.page_of-at.ensures some, c.args.self.now.pages.ok.0) in
    let page = c.index.ensures ∙ read_same pages c.page_of-at.result c.index.result.now c.index_mut.result.now below ∙ sym c.index_mut.ensures.value in
    let found = any-found (IsEntryOf c.args.watched.now c.args.place) c.index.result.now.entries.items (c.has.ensures c.if-not-has.false) in
    record {
      entry = found.0;
      its = found.1;
      there = unsettled_shelf ws found.0 _ refl (any-at (StandsOn ws found.0) pages c.page_of-at.result _ below
          (unsettled ws found.0 _ refl (subst (λ (p : Page). IsOneOf found.0 p.entries.items) page found.2)));
    }
