use Rattle.std.proofs.Common.{inl, inr, ⊎_elim, ap, arith}
use Rattle.std.specs.Prelude.{Err}
use Rattle.stm_lasting.proofs.Leading.{one_more, as_worlds}
use Rattle.stm_lasting.proofs.Moments.{weaker}
use Rattle.stm_lasting.proofs.keeping.keep.Goals as goal

pub returns-in-Ok-clause-kept : goal.returns-in-Ok-clause-kept
returns-in-Ok-clause-kept g c =
    one_more (g.D.Disk.seen c.args.records.now.disk) _ c.args.text.now c.args.world.now c.requires.leads c.in-Ok.ensures.acknowledged.1

pub returns-in-Ok-clause-any_moment : goal.returns-in-Ok-clause-any_moment
returns-in-Ok-clause-any_moment g c =
    weaker c.add_record.ensures.any_moment
    (λ f left. as_worlds (g.D.Disk.seen c.args.records.now.disk) c.args.text.now c.args.world.now f (omega (arith, c.requires.settled.end, c.length_of-length.ensures)) c.requires.leads left)

pub returns-in-Err-clause-any_moment : goal.returns-in-Err-clause-any_moment
returns-in-Err-clause-any_moment g c =
    weaker c.add_record.ensures.any_moment
    (λ f left. as_worlds (g.D.Disk.seen c.args.records.now.disk) c.args.text.now c.args.world.now f (omega (arith, c.requires.settled.end, c.length_of-length.ensures)) c.requires.leads left)

pub returns-in-Err-clause-failed : goal.returns-in-Err-clause-failed
returns-in-Err-clause-failed g c = λ is.
    ⊎_elim (λ failed. c.in-Err.ensures.failed (ap Err failed)) (λ damaged. absurd (c.in-Err.ensures.undamaged damaged.0 (ap Err damaged.1)))
    (c.fault_of.ensures.failed is)

pub returns-in-Err-clause-full : goal.returns-in-Err-clause-full
returns-in-Err-clause-full g c = λ is.
    ⊎_elim (λ file. inl (omega (arith, file, c.requires.settled.end))) (λ text. inr text) (c.in-Err.ensures.full (ap Err (c.fault_of.ensures.full is)))
