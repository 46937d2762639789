use Rattle.std.proofs.Common.{◌∙◌, ℕ, List, nat_eq, slice_set, ap, subst, sym}
use Rattle.stm_watch.specs.declared.shelf.Shelf.{Shelf}
use Rattle.stm_watch.specs.Pages.{IsAny, IsShelved, StandsOn}
use Rattle.stm_watch.proofs.Entered.{any-set, any-without, any-none}
use Rattle.stm_watch.proofs.ranges.Ranges.remove_from.Goals as goal

pub returns-then-is_empty : goal.returns-then-is_empty
returns-then-is_empty c ws e differs had =
    let changed : List Shelf = slice_set c.args.self.now.shelves.items c.args.at c.remove.new.self in
    let after : IsAny (IsShelved ws e) changed = any-set (IsShelved ws e) c.args.self.now.shelves.items c.args.at c.remove.new.self c.index_mut.result.now
    (λ stands. c.remove.ensures ws e differs (subst (IsShelved ws e) (sym c.index_mut.ensures.value) stands)) had in
    let empty = ap (λ (n : ℕ). nat_eq n 0) (sym c.index.result.now.pages.ok.0) ∙ sym c.is_empty.ensures ∙ c.if-is_empty.true in
    subst (λ (l : List Shelf). IsAny (IsShelved ws e) l) (sym c.remove-then-is_empty.ensures.items)
    (any-without (IsShelved ws e) changed c.args.at c.index.result.now
    (λ stands. any-none (StandsOn ws e) c.index.result.now.pages.items empty (subst (IsShelved ws e) (sym c.index.ensures) stands).there) after)

pub returns-else-is_empty : goal.returns-else-is_empty
returns-else-is_empty c ws e differs had =
    any-set (IsShelved ws e) c.args.self.now.shelves.items c.args.at c.remove.new.self c.index_mut.result.now
    (λ stands. c.remove.ensures ws e differs (subst (IsShelved ws e) (sym c.index_mut.ensures.value) stands)) had
