use Rattle.std.proofs.Common.{sym, ◌∙◌}
use Rattle.stm_compile.proofs.BufferLemmas.{distinct_latest}
use Rattle.stm_compile.proofs.write_buffer.WriteBuffer.of_latest.Goals as goal

pub invariant_of-result : goal.invariant_of-result
invariant_of-result c = distinct_latest c.args.writes c.into_vec.result.items (c.into_vec.ensures ∙ sym c.requires)
