-- The jobs that came to a fault, one after another.
use Rattle.std.proofs.Common.{◌≡◌, ◌∙◌, ℕ, suc, ◌+◌, ◌<◌, ◌≤◌, List, ◌∷◌, ◌++◌, length, drop, get_or, sym, ap, append_assoc, append-nil, arith}
use Rattle.std.proofs.lemmas.List.{drop_more, drop_all}
use Rattle.stm_job.specs.declared.job_end.JobEnd.{JobEnd}
use Rattle.stm_faulted_runs.specs.Jobs.{ReportedJob}
use Rattle.stm_threading.specs.Threading.{faulted_job, faulted_jobs}

-- the next end: its job, where it came to a fault, stands after those so far
pub one_end : (all so_far new : List ReportedJob) (ends : List JobEnd) (i : ℕ) (end : JobEnd) → i < length ends → end ≡ get_or ends i end →
    so_far ++ faulted_jobs i (drop i ends) ≡ all → new ≡ so_far ++ faulted_job i end → new ++ faulted_jobs (i + 1) (drop (i + 1) ends) ≡ all
one_end all so_far new ends i end within is left added =
    let rest : List JobEnd = drop (i + 1) ends in
    let next : i + 1 ≡ suc i = omega arith in
    ap (λ (js : List ReportedJob). js ++ faulted_jobs (i + 1) rest) added
    ∙ append_assoc so_far (faulted_job i end) (faulted_jobs (i + 1) rest)
    ∙ ap (λ n. so_far ++ (faulted_job i end ++ faulted_jobs n rest)) next
    ∙ ap (λ (es : List JobEnd). so_far ++ faulted_jobs i es) (sym (drop_more ends i end within ∙ ap (λ (e : JobEnd). e ∷ rest) (sym is)))
    ∙ left

-- no end is left
pub no_end : (all so_far : List ReportedJob) (ends : List JobEnd) (i : ℕ) → length ends ≤ i → so_far ++ faulted_jobs i (drop i ends) ≡ all → so_far ≡ all
no_end all so_far ends i past left =
    sym (append-nil so_far) ∙ ap (λ (es : List JobEnd). so_far ++ faulted_jobs i es) (sym (drop_all i ends past)) ∙ left
