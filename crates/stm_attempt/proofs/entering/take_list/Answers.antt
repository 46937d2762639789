use Rattle.std.proofs.lemmas.Result.{IfOk-weaker}
use Rattle.stm_attempt.proofs.TakingLemmas.{starts_taking}
use Rattle.stm_attempt.proofs.entering.take_list.Goals as goal

pub returns : goal.returns
returns c =
    IfOk-weaker c.take_each.result _ _
    (λ found reported. starts_taking c.args.program.now c.new.result c.args.prefetched.now _ found c.new.ensures c.prefetch.ensures.same reported)
    c.take_each.ensures
