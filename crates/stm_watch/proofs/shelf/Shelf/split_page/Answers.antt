use Rattle.std.proofs.Common.{◌≡◌, ◌+◌, ◌++◌, ◌∷◌, ℕ, suc, List, take, drop, slice_set, arith, subst, sym}
use Rattle.stm_watch.specs.declared.page.Page.{Page}
use Rattle.stm_watch.specs.Pages.{StandsOn, HasEntry}
use Rattle.stm_watch.proofs.Entered.{any-two}
use Rattle.stm_watch.proofs.shelf.Shelf.split_page.Goals as goal

pub returns-clause-kept : goal.returns-clause-kept
returns-clause-kept c ws e has =
    let pages : List Page = c.reserve.new.self.items in
    let changed : List Page = slice_set pages c.args.at c.split.new.self in
    let step : suc c.args.at ≡ c.args.at + 1 = omega arith in
    subst (λ (l : List Page). HasEntry ws l e) (sym c.in-Ok.ensures.items)
    (subst (λ (n : ℕ). HasEntry ws (take n changed ++ c.in_ok-upper.upper ∷ drop n changed) e) step
    (any-two (StandsOn ws e) pages c.args.at c.split.new.self c.in_ok-upper.upper c.index_mut.result.now
    (λ stands. c.in_ok-upper.ensures.ok ws e (subst (StandsOn ws e) (sym c.index_mut.ensures.value) stands))
    (subst (λ (l : List Page). HasEntry ws l e) (sym c.reserve.ensures.items) has)))
