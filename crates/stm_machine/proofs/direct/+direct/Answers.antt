use Rattle.stm_machine.specs.Direct.{GivesAtOnce}
use Rattle.stm_machine.proofs.DirectLemmas.{of_some, combined_at_once, joined_at_once, spelled_at_once, number_at_once}
use Rattle.stm_machine.proofs.direct.+direct.Goals as goal

pub combined-returns : goal.combined-returns
combined-returns t c =
    combined_at_once c.args.operator c.args.left.now c.args.right.now c.args.session.now c.in-Some.left c.in-Some-2.right c.unless_fault.result
    (of_some (GivesAtOnce c.args.left.now c.args.session.now) c.in_ok-left.field-0 c.in-Some.left c.in-Some.is c.in_ok-left.ensures)
    (of_some (GivesAtOnce c.args.right.now c.args.session.now) c.in_ok-right.field-0 c.in-Some-2.right c.in-Some-2.is c.in_ok-right.ensures)
    c.combine.result c.combine.ensures c.unless_fault.ensures

pub joined-returns : goal.joined-returns
joined-returns t c =
    joined_at_once c.args.left.now c.args.right.now c.args.session.now c.in-Some.left c.in-Some-2.right c.unless_fault.result
    (of_some (GivesAtOnce c.args.left.now c.args.session.now) c.in_ok-left.field-0 c.in-Some.left c.in-Some.is c.in_ok-left.ensures)
    (of_some (GivesAtOnce c.args.right.now c.args.session.now) c.in_ok-right.field-0 c.in-Some-2.right c.in-Some-2.is c.in_ok-right.ensures)
    c.in_ok-join.field-0 c.in_ok-join.ensures c.unless_fault.ensures

pub number_in-returns : goal.number_in-returns
number_in-returns t c =
    number_at_once c.args.text.now c.args.session.now c.in-Some.text c.unless_fault.result
    (of_some (GivesAtOnce c.args.text.now c.args.session.now) c.in_ok-text.field-0 c.in-Some.text c.in-Some.is c.in_ok-text.ensures)
    c.number_of.result c.number_of.ensures c.unless_fault.ensures

pub spelled-returns : goal.spelled-returns
spelled-returns t c =
    spelled_at_once c.args.number.now c.args.session.now c.in-Some.number c.unless_fault.result
    (of_some (GivesAtOnce c.args.number.now c.args.session.now) c.in_ok-number.field-0 c.in-Some.number c.in-Some.is c.in_ok-number.ensures)
    c.in_ok-spell.field-0 c.in_ok-spell.ensures c.unless_fault.ensures
