use Rattle.stm_check.proofs.Walking.{agreed_short}
use Rattle.stm_check.proofs.finals.first_off.Goals as goal

pub returns-then-lines-wanted-clause-off : goal.returns-then-lines-wanted-clause-off
returns-then-lines-wanted-clause-off c =
    agreed_short c.args.wanted.now c.args.lines.now c.loop-index.index c.loop-index.invariant.0 c.loop-index-test.false c.loop-index.auto.index-end
    c.if-lines-wanted.true
