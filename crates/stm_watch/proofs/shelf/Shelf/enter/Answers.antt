use Rattle.std.proofs.Common.{arith, subst, sym}
use Rattle.stm_watch.specs.Pages.{StandsOn}
use Rattle.stm_watch.proofs.Entered.{any-set, any-at}
use Rattle.stm_watch.proofs.shelf.Shelf.enter.Goals as goal

pub returns-in_err-add-clause-kept : goal.returns-in_err-add-clause-kept
returns-in_err-add-clause-kept c ws e has =
    any-set (StandsOn ws e) c.make_room.new.self.pages.items c.in_ok-at.at c.add.new.self c.index_mut.result.now
    (λ stands. c.add.ensures.kept ws e (subst (StandsOn ws e) (sym c.index_mut.ensures.value) stands)) (c.make_room.ensures.kept ws e has)

pub returns-clause-kept : goal.returns-clause-kept
returns-clause-kept c ws e has =
    any-set (StandsOn ws e) c.make_room.new.self.pages.items c.in_ok-at.at c.add.new.self c.index_mut.result.now
    (λ stands. c.add.ensures.kept ws e (subst (StandsOn ws e) (sym c.index_mut.ensures.value) stands)) (c.make_room.ensures.kept ws e has)

pub returns-clause-ok : goal.returns-clause-ok
returns-clause-ok c ws =
    any-at (StandsOn ws c.args.entry) c.make_room.new.self.pages.items c.in_ok-at.at c.add.new.self
    (omega (arith, c.in_ok-at.ensures.ok, c.make_room.new.self.pages.ok.0)) (c.in_ok-add.ensures.ok ws)
