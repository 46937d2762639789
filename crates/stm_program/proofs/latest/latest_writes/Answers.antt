use Rattle.std.proofs.Common.{refl, rules}
use Rattle.stm_program.proofs.TableLemmas.{has_none, has_more}
use Rattle.stm_program.proofs.latest.latest_writes.Goals as goal

pub loop-write-init : goal.loop-write-init
loop-write-init c = has_none c.args.writes.now c.new-latest.result.entries (search rules)

pub loop-write-preserved : goal.loop-write-preserved
loop-write-preserved c =
    has_more c.args.writes.now c.loop-write.write-index c.write-item.result c.key.result _ c.loop-write.latest.entries c.insert.new.self.entries
    c.loop-write-test.true c.write-item.is refl c.key.ensures c.in_ok-insert.ensures.entries c.loop-write.invariant
