use Rattle.std.proofs.Common.{◌∙◌, refl, sym, arith}
use Rattle.stm_keys.proofs.Dropping.{dropped_on, dropped_none}
use Rattle.stm_keys.proofs.keys.Keys.forget_up_to.Goals as goal

pub revisions-init : goal.revisions-init
revisions-init c = record { reached = c.requires; reported = refl }

pub forget_oldest-requires : goal.forget_oldest-requires
forget_oldest-requires c = omega (arith, c.below.ensures, c.revisions-test.true, c.revisions.invariant.reached)

pub revisions-preserved : goal.revisions-preserved
revisions-preserved c =
    let on = dropped_on c.revisions.self c.forget_oldest.new.self c.args.number c.forget_oldest.ensures
    (omega (arith, c.below.ensures, c.revisions-test.true)) c.revisions.invariant.reached in
    record { reached = on.0; reported = on.1 ∙ c.revisions.invariant.reported }

pub returns : goal.returns
returns c =
    sym (dropped_none c.revisions.self c.args.number (omega (arith, c.below.ensures, c.revisions-test.false))) ∙ c.revisions.invariant.reported
