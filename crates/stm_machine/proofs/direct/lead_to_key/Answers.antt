use Rattle.stm_machine.specs.Direct.{GivesAtOnce}
use Rattle.stm_machine.proofs.DirectLemmas.{of_some, leads_to_key}
use Rattle.stm_machine.proofs.direct.lead_to_key.Goals as goal

pub returns : goal.returns
returns c =
    leads_to_key c.args.key.now c.args.session.now c.in-Some.key c.at_key.result
    (of_some (GivesAtOnce c.args.key.now c.args.session.now) c.in_ok-key.field-0 c.in-Some.key c.in-Some.is c.in_ok-key.ensures)
    c.at_key.ensures
