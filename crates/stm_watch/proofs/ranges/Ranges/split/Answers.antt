use Rattle.std.proofs.Common.{◌≡◌, ◌+◌, ◌++◌, ◌∷◌, ℕ, suc, List, take, drop, slice_set, arith, subst, sym}
use Rattle.stm_watch.specs.declared.shelf.Shelf.{Shelf}
use Rattle.stm_watch.specs.Pages.{IsAny, IsShelved}
use Rattle.stm_watch.proofs.Entered.{any-two}
use Rattle.stm_watch.proofs.ranges.Ranges.split.Goals as goal

pub returns-clause-kept : goal.returns-clause-kept
returns-clause-kept c ws e had =
    let shelves : List Shelf = c.reserve.new.self.items in
    let changed : List Shelf = slice_set shelves c.args.at c.split.new.self in
    let step : suc c.args.at ≡ c.args.at + 1 = omega arith in
    subst (λ (l : List Shelf). IsAny (IsShelved ws e) l) (sym c.in-Ok.ensures.items)
    (subst (λ (n : ℕ). IsAny (IsShelved ws e) (take n changed ++ c.in_ok-upper.upper ∷ drop n changed)) step
    (any-two (IsShelved ws e) shelves c.args.at c.split.new.self c.in_ok-upper.upper c.index_mut.result.now
    (λ stands. c.in_ok-upper.ensures.ok ws e (subst (IsShelved ws e) (sym c.index_mut.ensures.value) stands))
    (subst (λ (l : List Shelf). IsAny (IsShelved ws e) l) (sym c.reserve.ensures.items) had)))
