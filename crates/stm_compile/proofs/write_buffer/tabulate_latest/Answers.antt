use Rattle.std.proofs.Common.{◌∙◌}
use Rattle.stm_compile.proofs.BufferLemmas.{distinct_latest}
use Rattle.stm_compile.proofs.write_buffer.tabulate_latest.Goals as goal

pub invariant_of-result : goal.invariant_of-result
invariant_of-result c = distinct_latest c.args.writes.now c.into_vec.result.items (c.into_vec.ensures ∙ c.in_ok-latest.ensures)
