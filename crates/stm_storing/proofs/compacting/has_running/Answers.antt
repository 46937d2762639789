use Rattle.std.proofs.Common.{sym, ◌∙◌, arith}
use Rattle.stm_storing.proofs.CompactLemmas.{one_more_idle, none_runs}
use Rattle.stm_storing.proofs.compacting.has_running.Goals as goal

pub loop-runner-preserved : goal.loop-runner-preserved
loop-runner-preserved c =
    one_more_idle c.args.world.now.runners c.loop-runner.runner c.loop-runner.invariant (sym c.is_running.ensures ∙ c.if-is_running.false)

pub returns : goal.returns
returns c = λ is.
    none_runs c.args.world.now.runners (λ k within. c.loop-runner.invariant k (omega (arith, within, c.runner_count-runner-end.ensures, c.loop-runner-test.false)))
