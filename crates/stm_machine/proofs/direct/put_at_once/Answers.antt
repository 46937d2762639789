use Rattle.stm_machine.specs.Direct.{GivesAtOnce}
use Rattle.stm_machine.proofs.DirectLemmas.{of_some, put_at_once}
use Rattle.stm_machine.proofs.direct.put_at_once.Goals as goal

pub returns-clause-ran : goal.returns-clause-ran
returns-clause-ran c =
    put_at_once c.args.key.now c.args.value.now c.args.lease c.args.session.now c.write.new.self c.in-Some.key c.in-Some-2.value c.in-Some-put_of.write
    (of_some (GivesAtOnce c.args.key.now c.args.session.now) c.in_ok-key.field-0 c.in-Some.key c.in-Some.is c.in_ok-key.ensures)
    (of_some (GivesAtOnce c.args.value.now c.args.session.now) c.in_ok-value.field-0 c.in-Some-2.value c.in-Some-2.is c.in_ok-value.ensures)
    c.in-Some-put_of.ensures c.in_ok-write.ensures.ok
