use Rattle.std.proofs.Common.{sym, ◌∙◌}
use Rattle.stm_program.proofs.LatestLemmas.{latest_writes-none}
use Rattle.stm_compile.proofs.BufferLemmas.{buffer_taken}
use Rattle.stm_compile.proofs.write_buffer.search_latest.Goals as goal

pub loop-write-init : goal.loop-write-init
loop-write-init c = c.in_ok-buffer.ensures ∙ sym latest_writes-none

pub loop-write-preserved : goal.loop-write-preserved
loop-write-preserved c =
    buffer_taken c.args.writes.now c.loop-write.write-index c.write-item.result c.in_ok-clone.field-0 c.loop-write.buffer c.write.new.self
    c.loop-write-test.true c.write-item.is c.in_ok-clone.ensures.cases c.in_ok-write.ensures.ok c.loop-write.invariant
