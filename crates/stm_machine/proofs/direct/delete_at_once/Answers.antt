use Rattle.stm_machine.specs.Direct.{GivesAtOnce}
use Rattle.stm_machine.proofs.DirectLemmas.{of_some, del_at_once}
use Rattle.stm_machine.proofs.direct.delete_at_once.Goals as goal

pub returns-clause-ran : goal.returns-clause-ran
returns-clause-ran c =
    del_at_once c.args.key.now c.args.session.now c.write.new.self c.in-Some.key c.in-Some-del_of.write
    (of_some (GivesAtOnce c.args.key.now c.args.session.now) c.in_ok-key.field-0 c.in-Some.key c.in-Some.is c.in_ok-key.ensures)
    c.in-Some-del_of.ensures c.in_ok-write.ensures.ok
