use Rattle.stm_watch.proofs.ranges.Ranges.wake.Goals as goal

pub returns-then-not-wake_on_shelf-clause-kept : goal.returns-then-not-wake_on_shelf-clause-kept
returns-then-not-wake_on_shelf-clause-kept c ws e had = c.wake_each.ensures ws ws e (c.wake_on_shelf.ensures.kept ws e had)

pub returns-then-not-wake_on_shelf-clause-woken : goal.returns-then-not-wake_on_shelf-clause-woken
returns-then-not-wake_on_shelf-clause-woken c old new had =
    record {
      entry = had.entry;
      its = had.its;
      there = c.wake_each.ensures old new had.entry (c.wake_on_shelf.ensures.kept old had.entry had.there);
    }

pub returns-else-not-wake_on_shelf-clause-woken : goal.returns-else-not-wake_on_shelf-clause-woken
returns-else-not-wake_on_shelf-clause-woken c old new had = c.wake_on_shelf.ensures.woken c.if-not-wake_on_shelf.false new
