use Rattle.std.proofs.Common.{⊎_elim, ap}
use Rattle.std.specs.Prelude.{Err}
use Rattle.stm_lasting.proofs.Compacted.{kept_alone, one_kept, opens_either}
use Rattle.stm_lasting.proofs.Moments.{weaker}
use Rattle.stm_lasting.proofs.compacting.compact.Goals as goal

pub returns-in-Ok-clause-kept : goal.returns-in-Ok-clause-kept
returns-in-Ok-clause-kept g c =
    kept_alone _ c.args.text.now c.args.after.now c.in-Ok.ensures.acknowledged.1 c.requires.leads

pub returns-in-Ok-clause-count : goal.returns-in-Ok-clause-count
returns-in-Ok-clause-count g c = one_kept _ c.args.text.now c.in-Ok.ensures.acknowledged.1

pub returns-in-Ok-clause-any_moment : goal.returns-in-Ok-clause-any_moment
returns-in-Ok-clause-any_moment g c =
    weaker c.checkpoint.ensures.any_moment
    (λ f left. opens_either (g.D.Disk.seen c.args.records.now.disk) c.args.text.now f c.args.before.now c.args.after.now c.requires.kept c.requires.leads left)

pub returns-in-Err-clause-any_moment : goal.returns-in-Err-clause-any_moment
returns-in-Err-clause-any_moment g c =
    weaker c.checkpoint.ensures.any_moment
    (λ f left. opens_either (g.D.Disk.seen c.args.records.now.disk) c.args.text.now f c.args.before.now c.args.after.now c.requires.kept c.requires.leads left)

pub returns-in-Err-clause-failed : goal.returns-in-Err-clause-failed
returns-in-Err-clause-failed g c = λ is.
    ⊎_elim (λ failed. c.in-Err.ensures.failed (ap Err failed)) (λ damaged. absurd (c.in-Err.ensures.undamaged damaged.0 (ap Err damaged.1)))
    (c.fault_of.ensures.failed is)

pub returns-in-Err-clause-full : goal.returns-in-Err-clause-full
returns-in-Err-clause-full g c = λ is. c.in-Err.ensures.full (ap Err (c.fault_of.ensures.full is))
