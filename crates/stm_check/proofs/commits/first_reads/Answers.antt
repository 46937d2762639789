use Rattle.stm_check.proofs.CommitLemmas.{first_reads}
use Rattle.stm_check.proofs.commits.first_reads.Goals as goal

pub returns : goal.returns
returns c =
    first_reads c.args.program.now.prefetch _ c.as_slice.result.now c.args.run.now.reads c.in_ok-keys.keys c.add_others.new.keys c.in_ok-keys.ensures
    c.prefetch.ensures.same c.as_slice.ensures c.in_ok-add_others.ensures
