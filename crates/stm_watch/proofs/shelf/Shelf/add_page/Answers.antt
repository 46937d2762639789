use Rattle.std.proofs.Common.{◌∷◌, [], List, inl, subst, sym}
use Rattle.stm_watch.specs.declared.page.Page.{Page}
use Rattle.stm_watch.specs.Pages.{StandsOn, HasEntry}
use Rattle.stm_watch.proofs.Entered.{any-left, any-right}
use Rattle.stm_watch.proofs.shelf.Shelf.add_page.Goals as goal

pub returns-clause-kept : goal.returns-clause-kept
returns-clause-kept c ws e has =
    subst (λ (pages : List Page). HasEntry ws pages e) (sym c.push_reserved.ensures.items)
    (any-left (StandsOn ws e) c.reserve_exact.new.self.items (c.in_ok-page.page ∷ [])
    (subst (λ (pages : List Page). HasEntry ws pages e) (sym c.reserve_exact.ensures.items) has))

pub returns-clause-ok : goal.returns-clause-ok
returns-clause-ok c ws =
    subst (λ (pages : List Page). HasEntry ws pages c.args.entry) (sym c.push_reserved.ensures.items)
    (any-right (StandsOn ws c.args.entry) c.reserve_exact.new.self.items (c.in_ok-page.page ∷ []) (inl (c.in_ok-page.ensures ws)))
