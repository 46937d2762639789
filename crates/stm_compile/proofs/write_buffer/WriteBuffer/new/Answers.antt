use Rattle.stm_compile.proofs.BufferLemmas.{distinct_none}
use Rattle.stm_compile.proofs.write_buffer.WriteBuffer.new.Goals as goal

pub invariant_of-result : goal.invariant_of-result
invariant_of-result c = distinct_none c.new.result.items c.new.ensures.items
