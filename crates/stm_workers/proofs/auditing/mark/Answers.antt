use Rattle.std.proofs.Common.{◌<◌, ◌||◌, ◌∙◌, Bool, List, true, false, length, get_or, IfSome, sym, ap, subst}
use Rattle.std.proofs.lemmas.List.{length-set}
use Rattle.stm_job.specs.declared.job_end.JobEnd.{JobEnd}
use Rattle.stm_workers.specs.Ends.{entry_named, names_entry}
use Rattle.stm_workers.specs.Marks.{is_marked}
use Rattle.stm_workers.proofs.AuditLemmas.{set_marks}
use Rattle.stm_workers.proofs.auditing.mark.Goals as goal

pub set_mark-requires : goal.set_mark-requires
set_mark-requires c =
    subst (λ (e : JobEnd). IfSome (entry_named e) (λ index. index < length c.args.marks.now.items)) c.in-Committed.is c.requires

pub returns-in-Committed-clause-reported : goal.returns-in-Committed-clause-reported
returns-in-Committed-clause-reported c =
    c.set_mark.ensures.was ∙ ap (λ (e : JobEnd). is_marked c.args.marks.now.items (entry_named e)) (sym c.in-Committed.is)

pub returns-in-Committed-clause-marks : goal.returns-in-Committed-clause-marks
returns-in-Committed-clause-marks c = λ index low.
    let old : List Bool = c.args.marks.now.items in
    let own = subst (λ (e : JobEnd). IfSome (entry_named e) (λ n. n < length old)) c.in-Committed.is c.requires in
    ap (λ (l : List Bool). get_or l index false) c.set_mark.ensures.marks
    ∙ set_marks old c.in-Committed.index index own
    ∙ ap (λ (e : JobEnd). names_entry index e || get_or old index false) (sym c.in-Committed.is)

pub returns-in-Committed-clause-length : goal.returns-in-Committed-clause-length
returns-in-Committed-clause-length c =
    ap (λ (l : List Bool). length l) c.set_mark.ensures.marks ∙ length-set c.args.marks.now.items c.in-Committed.index true

-- ---- an end that names none

pub returns-in-Aborted-clause-reported : goal.returns-in-Aborted-clause-reported
returns-in-Aborted-clause-reported c = ap (λ (e : JobEnd). is_marked c.args.marks.now.items (entry_named e)) (sym c.in-Aborted.is)

pub returns-in-Aborted-clause-marks : goal.returns-in-Aborted-clause-marks
returns-in-Aborted-clause-marks c = λ index low.
    ap (λ (e : JobEnd). names_entry index e || get_or c.args.marks.now.items index false) (sym c.in-Aborted.is)

pub returns-in-Faulted-clause-reported : goal.returns-in-Faulted-clause-reported
returns-in-Faulted-clause-reported c = ap (λ (e : JobEnd). is_marked c.args.marks.now.items (entry_named e)) (sym c.in-Faulted.is)

pub returns-in-Faulted-clause-marks : goal.returns-in-Faulted-clause-marks
returns-in-Faulted-clause-marks c = λ index low.
    ap (λ (e : JobEnd). names_entry index e || get_or c.args.marks.now.items index false) (sym c.in-Faulted.is)

pub returns-in-Refused-clause-reported : goal.returns-in-Refused-clause-reported
returns-in-Refused-clause-reported c = ap (λ (e : JobEnd). is_marked c.args.marks.now.items (entry_named e)) (sym c.in-Refused.is)

pub returns-in-Refused-clause-marks : goal.returns-in-Refused-clause-marks
returns-in-Refused-clause-marks c = λ index low.
    ap (λ (e : JobEnd). names_entry index e || get_or c.args.marks.now.items index false) (sym c.in-Refused.is)

pub returns-in-GaveUp-clause-reported : goal.returns-in-GaveUp-clause-reported
returns-in-GaveUp-clause-reported c = ap (λ (e : JobEnd). is_marked c.args.marks.now.items (entry_named e)) (sym c.in-GaveUp.is)

pub returns-in-GaveUp-clause-marks : goal.returns-in-GaveUp-clause-marks
returns-in-GaveUp-clause-marks c = λ index low.
    ap (λ (e : JobEnd). names_entry index e || get_or c.args.marks.now.items index false) (sym c.in-GaveUp.is)
