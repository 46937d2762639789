use Rattle.std.proofs.Common.{sym, subst, take}
use Rattle.stm_attempt.specs.Known.{HaveDistinctKeys}
use Rattle.stm_attempt.proofs.AttemptLemmas.{list_is}
use Rattle.stm_attempt.proofs.TakingLemmas.{listed_are_distinct}
use Rattle.stm_attempt.proofs.attempt.Attempt.supply_all.Goals as goal

pub set_of-requires-clause-distinct : goal.set_of-requires-clause-distinct
set_of-requires-clause-distinct c =
    subst HaveDistinctKeys (sym c.of.ensures)
    (listed_are_distinct c.in-Some.program c.args.answers.items c.prefetch.ensures.fits
    (list_is c.args.self.now c.self.inside.program c.self.inside.level (take c.self.inside.reported c.self.inside.reads) c.self.inside.prefetched _
    c.in-Some.program c.self.view_is c.requires.asked c.in-Some.is))
