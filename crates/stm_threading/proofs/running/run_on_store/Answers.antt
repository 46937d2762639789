use Rattle.std.proofs.Common.{string_bytes, sym, subst, ◌∙◌, List}
use Rattle.std.proofs.lemmas.Result.{IfErr-weaker}
use Rattle.stm_job.specs.declared.job_end.JobEnd.{JobEnd}
use Rattle.stm_threading.specs.Running.{IsOfRun}
use Rattle.stm_threading.proofs.RunLemmas.{of_both, is_of_run, broken_off, no_room}
use Rattle.stm_threading.proofs.running.run_on_store.Goals as goal

-- there is a number of attempts for each end
pub shown_run-requires : goal.shown_run-requires
shown_run-requires g c = c.in-Ok.ensures.ok.attempted ∙ sym c.in-Ok.ensures.ok.places

pub returns-in-Ok-clause-shows : goal.returns-in-Ok-clause-shows
returns-in-Ok-clause-shows g c =
    let gathered = c.in-Ok.gathered in
    of_both c.shown_run.result _ _ _ c.shown_run.ensures.shows c.shown_run.ensures.ends
    (λ p shows ended start calls stands.
    subst (λ (ends : List JobEnd). IsOfRun c.args.shown start calls c.args.jobs.now ends (string_bytes p.text)) (sym ended)
    (is_of_run c.args.shown start calls c.args.jobs.now (string_bytes p.text) c.args.store.standing gathered.ends.items gathered.lost.items
    gathered.committed c.new.result gathered.hall stands c.new.ensures c.in-Ok.ensures.ok shows))

pub returns-in-Ok-clause-fault : goal.returns-in-Ok-clause-fault
returns-in-Ok-clause-fault g c =
    IfErr-weaker c.shown_run.result _ _ (λ fault reported start calls stands. no_room start calls c.args.jobs.now fault reported) c.shown_run.ensures.fault

-- its cause is reported
pub returns-in-Err-clause-fault : goal.returns-in-Err-clause-fault
returns-in-Err-clause-fault g c = λ start calls stands.
    broken_off start calls c.args.jobs.now c.fault_of_run.result c.in-Err.broken.cause c.args.store.standing c.in-Err.broken.ends.items c.new.result c.in-Err.broken.hall stands
    c.new.ensures c.in-Err.ensures.fault c.fault_of_run.ensures
