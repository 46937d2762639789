use Rattle.std.proofs.Common.{◌<◌, length, vec_len, arith, rules, subst, sym}
use Rattle.stm_watch.specs.Pages.{IsShelved}
use Rattle.stm_watch.proofs.Entered.{any-set, any-at}
use Rattle.stm_watch.proofs.ranges.Ranges.wake_on_shelf.Goals as goal

pub returns-clause-kept : goal.returns-clause-kept
returns-clause-kept c ws e had =
    any-set (IsShelved ws e) c.args.self.now.shelves.items c.shelf_of-at.result c.wake_on_page.new.self c.index_mut.result.now
    (λ stands. c.wake_on_page.ensures.kept ws e (subst (IsShelved ws e) (sym c.index_mut.ensures.value) stands)) had

pub returns-clause-woken : goal.returns-clause-woken
returns-clause-woken c said ws =
    let found = c.wake_on_page.ensures.woken said ws in
    let some : 0 < vec_len c.args.self.now.shelves = search rules in
    let below : c.shelf_of-at.result < length c.args.self.now.shelves.items = omega (arith, c.shelf_of-at.ensures some, c.args.self.now.shelves.ok.0) in
    record {
      entry = found.entry;
      its = found.its;
      there = any-at (IsShelved ws found.entry) c.args.self.now.shelves.items c.shelf_of-at.result c.wake_on_page.new.self below found.there;
    }
