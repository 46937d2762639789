use Rattle.stm_watch.proofs.Ordered.{le_itself, within_wider}
use Rattle.stm_watch.proofs.page.Bounds.widen.Goals as goal

pub returns-in_err-lower-clause-kept : goal.returns-in_err-lower-clause-kept
returns-in_err-lower-clause-kept c e within =
    within_wider e c.args.self.now (record { low = c.lower.new.bound; high = c.args.self.now.high }) c.lower.ensures.below (le_itself c.args.self.now.high) within

pub returns-in_err-raise-clause-kept : goal.returns-in_err-raise-clause-kept
returns-in_err-raise-clause-kept c e within =
    within_wider e c.args.self.now (record { low = c.lower.new.bound; high = c.raise.new.bound }) c.lower.ensures.below c.raise.ensures.above within

pub returns-clause-kept : goal.returns-clause-kept
returns-clause-kept c e within =
    within_wider e c.args.self.now (record { low = c.lower.new.bound; high = c.raise.new.bound }) c.lower.ensures.below c.raise.ensures.above within

pub returns-clause-ok : goal.returns-clause-ok
returns-clause-ok c e within =
    within_wider e (record { low = c.args.low.now; high = c.args.high.now }) (record { low = c.lower.new.bound; high = c.raise.new.bound })
    c.in_ok-lower.ensures.ok c.in_ok-raise.ensures.ok within
