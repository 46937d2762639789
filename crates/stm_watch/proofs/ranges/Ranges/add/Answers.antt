use Rattle.std.proofs.Common.{arith, subst, sym}
use Rattle.stm_watch.specs.Pages.{IsShelved}
use Rattle.stm_watch.proofs.Entered.{any-set, any-at}
use Rattle.stm_watch.proofs.ranges.Ranges.add.Goals as goal

pub returns-in_err-at-clause-kept : goal.returns-in_err-at-clause-kept
returns-in_err-at-clause-kept c ws e had = c.make_room.ensures.kept ws e (c.make_first.ensures.kept ws e had)

pub returns-in_err-add-clause-kept : goal.returns-in_err-add-clause-kept
returns-in_err-add-clause-kept c ws e had =
    any-set (IsShelved ws e) c.make_room.new.self.shelves.items c.in_ok-at.at c.add.new.self c.index_mut.result.now
    (λ stands. c.add.ensures.kept ws e (subst (IsShelved ws e) (sym c.index_mut.ensures.value) stands))
    (c.make_room.ensures.kept ws e (c.make_first.ensures.kept ws e had))

pub returns-clause-kept : goal.returns-clause-kept
returns-clause-kept c ws e had =
    any-set (IsShelved ws e) c.make_room.new.self.shelves.items c.in_ok-at.at c.add.new.self c.index_mut.result.now
    (λ stands. c.add.ensures.kept ws e (subst (IsShelved ws e) (sym c.index_mut.ensures.value) stands))
    (c.make_room.ensures.kept ws e (c.make_first.ensures.kept ws e had))

pub returns-clause-ok : goal.returns-clause-ok
returns-clause-ok c ws =
    any-at (IsShelved ws c.args.entry) c.make_room.new.self.shelves.items c.in_ok-at.at c.add.new.self
    (omega (arith, c.in_ok-at.ensures.ok, c.make_room.new.self.shelves.ok.0)) (c.in_ok-add.ensures.ok ws)
