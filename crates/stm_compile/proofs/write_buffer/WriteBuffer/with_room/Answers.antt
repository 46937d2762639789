use Rattle.stm_compile.proofs.BufferLemmas.{distinct_none}
use Rattle.stm_compile.proofs.write_buffer.WriteBuffer.with_room.Goals as goal

pub invariant_of-result : goal.invariant_of-result
invariant_of-result c = distinct_none c.in_ok-writes.writes.items c.in_ok-writes.ensures.items
