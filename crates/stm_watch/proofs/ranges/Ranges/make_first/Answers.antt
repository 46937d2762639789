use Rattle.std.proofs.Common.{◌∷◌, [], List, subst, sym}
use Rattle.stm_watch.specs.declared.shelf.Shelf.{Shelf}
use Rattle.stm_watch.specs.Pages.{IsAny, IsShelved}
use Rattle.stm_watch.proofs.Entered.{any-left}
use Rattle.stm_watch.proofs.ranges.Ranges.make_first.Goals as goal

pub returns-in_ok-reserve_exact-clause-kept : goal.returns-in_ok-reserve_exact-clause-kept
returns-in_ok-reserve_exact-clause-kept c ws e had =
    subst (λ (l : List Shelf). IsAny (IsShelved ws e) l) (sym c.push_reserved.ensures.items)
    (any-left (IsShelved ws e) c.reserve_exact.new.self.items (c.new.result ∷ [])
    (subst (λ (l : List Shelf). IsAny (IsShelved ws e) l) (sym c.reserve_exact.ensures.items) had))
