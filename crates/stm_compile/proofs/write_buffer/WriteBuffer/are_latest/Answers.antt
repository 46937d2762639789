use Rattle.stm_compile.proofs.BufferLemmas.{latest_of_distinct}
use Rattle.stm_compile.proofs.write_buffer.WriteBuffer.are_latest.Goals as goal

pub returns-then-writes-le-MOST_SEARCHED : goal.returns-then-writes-le-MOST_SEARCHED
returns-then-writes-le-MOST_SEARCHED c = λ apart. latest_of_distinct c.args.writes.now (c.are_apart.ensures apart)
