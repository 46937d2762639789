use Rattle.std.proofs.Common.{rules, tests, ◌∙◌}
use Rattle.std.proofs.lemmas.Iterator.{YieldsList-from_slice}
use Rattle.std.proofs.lemmas.Iterator.Consumers.{count_from_yields_List, YieldsList-from_filter}
use Rattle.std.proofs.lemmas.List.Sums.{length-filter}
use Rattle.stm_job.specs.Ends.{is_committed}
use Rattle.stm_workers.proofs.run.count_committed.Goals as goal

pub returns : goal.returns
returns c =
    count_from_yields_List c.filter.result c.count.result c.count.ensures.ran
    (YieldsList-from_filter _ is_committed (YieldsList-from_slice c.args.ends.now cc) c.filter.ensures.closure (λ x r q k. search (rules, tests)))
    ∙ length-filter is_committed c.args.ends.now
