use Rattle.stm_machine.specs.Direct.{GivesAtOnce}
use Rattle.stm_machine.proofs.DirectLemmas.{of_some, set_at_once}
use Rattle.stm_machine.proofs.direct.set_at_once.Goals as goal

pub returns-clause-ran : goal.returns-clause-ran
returns-clause-ran c =
    set_at_once c.args.variable c.args.value.now c.args.session.now c.set.new.self c.in-Some.value
    (of_some (GivesAtOnce c.args.value.now c.args.session.now) c.in_ok-value.field-0 c.in-Some.value c.in-Some.is c.in_ok-value.ensures)
    c.set.ensures
