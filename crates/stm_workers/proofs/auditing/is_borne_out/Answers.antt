use Rattle.std.proofs.Common.{◌≡◌, true, ◌↔◌, refl, sym, subst}
use Rattle.stm_job.specs.declared.job_end.JobEnd.{JobEnd}
use Rattle.stm_workers.specs.Ends.{IsBorneOut}
use Rattle.stm_workers.proofs.auditing.is_borne_out.Goals as goal

pub returns-in-Committed : goal.returns-in-Committed
returns-in-Committed c =
    subst (λ (e : JobEnd). (c.has_commit.result ≡ true) ↔ IsBorneOut c.args.begun c.args.hall.now c.args.job.now e) (sym c.in-Committed.is)
    (rw c.entries.ensures.entries at c.has_commit.ensures)

pub returns-in-GaveUp : goal.returns-in-GaveUp
returns-in-GaveUp c =
    subst (λ (e : JobEnd). (c.may_have_given_up.result ≡ true) ↔ IsBorneOut c.args.begun c.args.hall.now c.args.job.now e) (sym c.in-GaveUp.is)
    (rw c.as_str.ensures at c.may_have_given_up.ensures)

pub returns-in-Aborted : goal.returns-in-Aborted
returns-in-Aborted c =
    subst (λ (e : JobEnd). (c.may_have_stopped.result ≡ true) ↔ IsBorneOut c.args.begun c.args.hall.now c.args.job.now e) (sym c.in-Aborted.is)
    (rw c.as_slice.ensures at c.may_have_stopped.ensures)

pub returns-in-Faulted : goal.returns-in-Faulted
returns-in-Faulted c =
    subst (λ (e : JobEnd). (c.may_have_stopped-in-Faulted.result ≡ true) ↔ IsBorneOut c.args.begun c.args.hall.now c.args.job.now e) (sym c.in-Faulted.is)
    (rw c.as_slice-in-Faulted.ensures at c.may_have_stopped-in-Faulted.ensures)

-- nothing is said of a refusal
pub returns-in-Refused : goal.returns-in-Refused
returns-in-Refused c =
    subst (λ (e : JobEnd). (true ≡ true) ↔ IsBorneOut c.args.begun c.args.hall.now c.args.job.now e) (sym c.in-Refused.is) ((λ yes. tt), (λ fact. refl))
