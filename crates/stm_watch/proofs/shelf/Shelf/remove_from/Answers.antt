use Rattle.std.proofs.Common.{◌≡◌, ◌∙◌, ℕ, List, nat_eq, slice_set, ap, subst, sym}
use Rattle.stm_watch.specs.declared.page.Page.{Page}
use Rattle.stm_watch.specs.Pages.{StandsOn, HasEntry}
use Rattle.stm_watch.proofs.Entered.{any-set, any-without, any-none}
use Rattle.stm_watch.proofs.shelf.Shelf.remove_from.Goals as goal

pub returns-then-is_empty : goal.returns-then-is_empty
returns-then-is_empty c ws e differs has =
    let changed : List Page = slice_set c.args.self.now.pages.items c.args.at c.remove.new.self in
    let after : HasEntry ws changed e = any-set (StandsOn ws e) c.args.self.now.pages.items c.args.at c.remove.new.self c.index_mut.result.now
    (λ stands. c.remove.ensures ws e differs (subst (StandsOn ws e) (sym c.index_mut.ensures.value) stands)) has in
    let empty = ap (λ (n : ℕ). nat_eq n 0) (sym c.index.result.now.entries.ok.0) ∙ sym c.is_empty.ensures ∙ c.if-is_empty.true in
    subst (λ (l : List Page). HasEntry ws l e) (sym c.remove-then-is_empty.ensures.items)
    (any-without (StandsOn ws e) changed c.args.at c.index.result.now
    (λ stands. any-none (λ y. y ≡ e) c.index.result.now.entries.items empty (subst (StandsOn ws e) (sym c.index.ensures) stands).there) after)

pub returns-else-is_empty : goal.returns-else-is_empty
returns-else-is_empty c ws e differs has =
    any-set (StandsOn ws e) c.args.self.now.pages.items c.args.at c.remove.new.self c.index_mut.result.now
    (λ stands. c.remove.ensures ws e differs (subst (StandsOn ws e) (sym c.index_mut.ensures.value) stands)) has
