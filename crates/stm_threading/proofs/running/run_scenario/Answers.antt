use Rattle.std.proofs.Common.{Ok, Err, map, ap, ◌∙◌}
use Rattle.std.proofs.lemmas.Result.{err_from_is_err_and}
use Rattle.stm_threading.specs.declared.running.JobsFault.{JobsFault}
use Rattle.stm_job_texts.specs.Accepting.{sorted_of, task_of}
use Rattle.stm_threading.proofs.RunLemmas.{answers_of, answers_fault}
use Rattle.stm_threading.proofs.running.run_scenario.Goals as goal

pub returns-in_err-sorted : goal.returns-in_err-sorted
returns-in_err-sorted g c =
    let p = err_from_is_err_and c.from_residual.result c.from_residual.ensures.1 in
    answers_fault c.args.printing (Ok c.args.scenario) c.in_err-sorted.field-0.0 c.from_residual.result c.in_err-sorted.ensures
    (p.1 ∙ ap (λ (fault : JobsFault). Err fault) p.2)

pub returns : goal.returns
returns g c =
    answers_of c.args.printing c.args.scenario (sorted_of c.in_ok-sorted.sorted) c.opens_with-opening.result c.as_slice.result.now
    c.as_slice-2.result.now c.run_printing.result c.in_ok-sorted.ensures c.opens_with-opening.ensures.setup c.as_slice.ensures (ap (map task_of) c.as_slice-2.ensures)
    c.run_printing.ensures.printed c.run_printing.ensures.fault
