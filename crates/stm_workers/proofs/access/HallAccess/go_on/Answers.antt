use Rattle.stm_workers.proofs.NextLemmas.{aborted_is_not_done, faulted_is_not_done, ready_is_of, left_is_of, left_at_fetch, left_at_list}
use Rattle.stm_workers.proofs.NextLemmas.{left_at_abort, left_at_fault, supplied_is_of, all_supplied_is_of, waits_for, waits_for_list, list_is_named}
use Rattle.stm_workers.proofs.NextLemmas.{aborted_is_run, faulted_is_run, aborted_has_list, faulted_has_list, reads_taken}
use Rattle.std.proofs.Common.{◌≡◌, ◌⊎◌, ℕ, List, Some, inl, inr, refl, ap, subst, sym, ◌∙◌}
use Rattle.stm_history.specs.declared.key_state.ReadAnswer.{ReadAnswer}
use Rattle.std.proofs.lemmas.Result.{err_from_is_err_and}
use Rattle.stm_attempt.specs.AttemptState.{AttemptState, advanced, supplied, supplied_all}
use Rattle.stm_workers.specs.declared.stop.Stop.TheVariants.{OutOfMemory}
use Rattle.stm_outcome.specs.Commits.{AreNamed}
use Rattle.stm_workers.specs.Attempts.{state_of, AreAnswered, AreUnanswered}
use Rattle.stm_workers.proofs.AttemptLemmas.{reported_out, fetch_stops, list_stops}
use Rattle.stm_workers.proofs.access.HallAccess.go_on.Goals as goal

pub advance_and_give-requires : goal.advance_and_give-requires
advance_and_give-requires g c = c.requires.0

pub returns-in-Ready-clause-attempt : goal.returns-in-Ready-clause-attempt
returns-in-Ready-clause-attempt g c = left_is_of c.args.job.now c.args.attempt.now c.advance_and_give.new.self c.in_ok-next.next c.in_ok-next.ensures.left c.requires

-- it is a run of the job
pub returns-in-Ready-clause-ready : goal.returns-in-Ready-clause-ready
returns-in-Ready-clause-ready g c = ready_is_of c.args.job.now c.args.attempt.now c.in-Ready.ready c.requires (sym c.in_ok-next.ensures.next ∙ c.in-Ready.is)

pub of_run-requires : goal.of_run-requires
of_run-requires g c = aborted_is_not_done c.args.job.now.program c.args.attempt.now.level c.args.attempt.now.known c.in-Aborted.run' (sym c.in_ok-next.ensures.next ∙ c.in-Aborted.is)

pub of_run-requires-in-Faulted : goal.of_run-requires-in-Faulted
of_run-requires-in-Faulted g c = faulted_is_not_done c.args.job.now.program c.args.attempt.now.level c.args.attempt.now.known c.in-Faulted.run' (sym c.in_ok-next.ensures.next ∙ c.in-Faulted.is)

-- the answer is for the key that the attempt waits for
pub supply-requires-clause-asked : goal.supply-requires-clause-asked
supply-requires-clause-asked g c =
    waits_for c.advance_and_give.new.self c.in_ok-next.next c.in-Fetch.key c.in-Fetch.at c.in_ok-answer-in-Fetch.answer c.in_ok-next.ensures.asked c.in-Fetch.is
    c.in_ok-answer-in-Fetch.ensures.key

pub returns-in_ok-supply-in-Fetch-clause-attempt : goal.returns-in_ok-supply-in-Fetch-clause-attempt
returns-in_ok-supply-in-Fetch-clause-attempt g c =
    supplied_is_of c.args.job.now c.in_ok-answer-in-Fetch.answer c.advance_and_give.new.self _ c.in_ok-supply-in-Fetch.ensures.ok
    (left_is_of c.args.job.now c.args.attempt.now c.advance_and_give.new.self c.in_ok-next.next c.in_ok-next.ensures.left c.requires)

-- ---- a fetch

pub returns-in_ok-supply-in-Fetch-clause-fetch : goal.returns-in_ok-supply-in-Fetch-clause-fetch
returns-in_ok-supply-in-Fetch-clause-fetch g c = λ none. inl (record {
  key = c.in-Fetch.key;
  at = c.in-Fetch.at;
  wants = sym c.in_ok-next.ensures.next ∙ c.in-Fetch.is;
  answer = c.in_ok-answer-in-Fetch.answer;
  answered = c.in_ok-answer-in-Fetch.ensures.answered;
  goes_on = c.in_ok-supply-in-Fetch.ensures.ok
      ∙ ap (λ (a : AttemptState). supplied c.in_ok-answer-in-Fetch.answer a)
      (left_at_fetch (advanced c.args.job.now.program c.args.attempt.now) c.advance_and_give.new.self c.in_ok-next.next c.in-Fetch.key c.in-Fetch.at c.in_ok-next.ensures.left c.in-Fetch.is);
  sees = c.in_ok-answer-in-Fetch.ensures.seen.1;
})

-- ---- a list

pub ask_all-asked-requires : goal.ask_all-asked-requires
ask_all-asked-requires g c =
    subst AreNamed (sym c.as_slice.ensures)
    (list_is_named c.args.job.now.program c.args.attempt.now.level c.args.attempt.now.known c.in-FetchAll.keys _ c.prefetch.ensures.fits
    (sym c.in_ok-next.ensures.next ∙ c.in-FetchAll.is))

pub supply_all-requires-clause-asked : goal.supply_all-requires-clause-asked
supply_all-requires-clause-asked g c =
    waits_for_list c.advance_and_give.new.self c.in_ok-next.next c.in-FetchAll.keys _ c.in_ok-answers-in-FetchAll.answers.items c.in_ok-next.ensures.list
    c.in-FetchAll.is (c.in_ok-answers-in-FetchAll.ensures.keys ∙ c.as_slice.ensures)

pub returns-in_ok-supply_all-in-FetchAll-clause-attempt : goal.returns-in_ok-supply_all-in-FetchAll-clause-attempt
returns-in_ok-supply_all-in-FetchAll-clause-attempt g c =
    all_supplied_is_of c.args.job.now c.in_ok-answers-in-FetchAll.answers.items c.advance_and_give.new.self _ c.in_ok-supply_all-in-FetchAll.ensures.ok
    (left_is_of c.args.job.now c.args.attempt.now c.advance_and_give.new.self c.in_ok-next.next c.in_ok-next.ensures.left c.requires)

pub returns-in_ok-supply_all-in-FetchAll-clause-fetch : goal.returns-in_ok-supply_all-in-FetchAll-clause-fetch
returns-in_ok-supply_all-in-FetchAll-clause-fetch g c = λ none. inr (record {
  keys = c.in-FetchAll.keys;
  at = _;
  wants = sym c.in_ok-next.ensures.next ∙ c.in-FetchAll.is;
  answers = c.in_ok-answers-in-FetchAll.answers.items;
  answered = subst (λ (l : List (List ℕ)). AreAnswered g.R.RunOfJobs.before c.args.seen.now l c.in_ok-answers-in-FetchAll.answers.items c.ask_all-asked.new.seen) c.as_slice.ensures
      c.in_ok-answers-in-FetchAll.ensures.answered;
  goes_on = c.in_ok-supply_all-in-FetchAll.ensures.ok
      ∙ ap (λ (a : AttemptState). supplied_all c.in_ok-answers-in-FetchAll.answers.items a)
      (left_at_list (advanced c.args.job.now.program c.args.attempt.now) c.advance_and_give.new.self c.in_ok-next.next c.in-FetchAll.keys _ c.in_ok-next.ensures.left c.in-FetchAll.is);
})

pub returns-in-Ready-clause-fetch : goal.returns-in-Ready-clause-fetch
returns-in-Ready-clause-fetch g c = λ none. absurd (cc)

pub returns-in-Ready-clause-is_ready : goal.returns-in-Ready-clause-is_ready
returns-in-Ready-clause-is_ready g c = (sym c.in_ok-next.ensures.next ∙ c.in-Ready.is, refl)

-- ---- an attempt that goes no further

pub returns-in-Aborted-clause-stops : goal.returns-in-Aborted-clause-stops
returns-in-Aborted-clause-stops g c = inr (
  inl (record {
    run = c.in-Aborted.run';
    has_list = aborted_has_list c.args.job.now.program c.args.attempt.now.level c.args.attempt.now.known c.in-Aborted.run' (sym c.in_ok-next.ensures.next ∙ c.in-Aborted.is);
    is_run = aborted_is_run c.args.job.now.program c.args.attempt.now.level c.args.attempt.now.known c.in-Aborted.run' (sym c.in_ok-next.ensures.next ∙ c.in-Aborted.is);
    reported = c.of_run.ensures.end;
    reads = c.of_run.ensures.reads ∙ ap (λ (rs : List ReadAnswer). Some rs) (reads_taken c.args.job.now.program c.args.attempt.now c.advance_and_give.new.self
        c.take_reads.result
        (left_at_abort (advanced c.args.job.now.program c.args.attempt.now) c.advance_and_give.new.self c.in_ok-next.next c.in-Aborted.run' c.in_ok-next.ensures.left c.in-Aborted.is) c.take_reads.ensures.reads);
  }),
  refl,
)

pub returns-in-Faulted-clause-stops : goal.returns-in-Faulted-clause-stops
returns-in-Faulted-clause-stops g c = inr (
  inl (record {
    run = c.in-Faulted.run';
    has_list = faulted_has_list c.args.job.now.program c.args.attempt.now.level c.args.attempt.now.known c.in-Faulted.run' (sym c.in_ok-next.ensures.next ∙ c.in-Faulted.is);
    is_run = faulted_is_run c.args.job.now.program c.args.attempt.now.level c.args.attempt.now.known c.in-Faulted.run' (sym c.in_ok-next.ensures.next ∙ c.in-Faulted.is);
    reported = c.of_run-in-Faulted.ensures.end;
    reads = c.of_run-in-Faulted.ensures.reads
        ∙ ap (λ (rs : List ReadAnswer). Some rs) (reads_taken c.args.job.now.program c.args.attempt.now c.advance_and_give.new.self
        c.take_reads-in-Faulted.result
        (left_at_fault (advanced c.args.job.now.program c.args.attempt.now) c.advance_and_give.new.self c.in_ok-next.next c.in-Faulted.run' c.in_ok-next.ensures.left c.in-Faulted.is)
        c.take_reads-in-Faulted.ensures.reads);
  }),
  refl,
)

pub returns-in_err-next-clause-stops : goal.returns-in_err-next-clause-stops
returns-in_err-next-clause-stops g c =
    let exit = err_from_is_err_and c.from_residual.result c.from_residual.ensures.1 in
    reported_out c.from_residual.result _ exit.0 OutOfMemory exit.1 exit.2 (inl refl)

pub returns-in_err-answer-in-Fetch-clause-stops : goal.returns-in_err-answer-in-Fetch-clause-stops
returns-in_err-answer-in-Fetch-clause-stops g c =
    let exit = err_from_is_err_and c.from_residual-in_err-answer-in-Fetch.result c.from_residual-in_err-answer-in-Fetch.ensures.1 in
    reported_out c.from_residual-in_err-answer-in-Fetch.result _ exit.0 c.in_err-answer-in-Fetch.field-0.0 exit.1 exit.2
    (fetch_stops g.R.RunOfJobs.before c.args.job.now (state_of c.args.attempt.now c.args.seen.now) c.in-Fetch.key c.in-Fetch.at _ _ (sym c.in_ok-next.ensures.next ∙ c.in-Fetch.is)
    c.in_err-answer-in-Fetch.ensures.refused c.in_err-answer-in-Fetch.ensures.stopped)

pub returns-in_err-supply-in-Fetch-clause-stops : goal.returns-in_err-supply-in-Fetch-clause-stops
returns-in_err-supply-in-Fetch-clause-stops g c =
    let exit = err_from_is_err_and c.from_residual-in_err-supply-in-Fetch.result c.from_residual-in_err-supply-in-Fetch.ensures.1 in
    reported_out c.from_residual-in_err-supply-in-Fetch.result _ exit.0 OutOfMemory exit.1 exit.2 (inl refl)

pub returns-in_err-answers-in-FetchAll-clause-stops : goal.returns-in_err-answers-in-FetchAll-clause-stops
returns-in_err-answers-in-FetchAll-clause-stops g c =
    let exit = err_from_is_err_and c.from_residual-in_err-answers-in-FetchAll.result c.from_residual-in_err-answers-in-FetchAll.ensures.1 in
    reported_out c.from_residual-in_err-answers-in-FetchAll.result _ exit.0 c.in_err-answers-in-FetchAll.field-0.0 exit.1 exit.2
    (list_stops g.R.RunOfJobs.before c.args.job.now (state_of c.args.attempt.now c.args.seen.now) c.in-FetchAll.keys _ _ _ (sym c.in_ok-next.ensures.next ∙ c.in-FetchAll.is)
    (subst (λ (l : List (List ℕ)). (c.in_err-answers-in-FetchAll.field-0.0 ≡ OutOfMemory) ⊎ AreUnanswered g.R.RunOfJobs.before c.args.seen.now l c.in_err-answers-in-FetchAll.field-0.0)
    c.as_slice.ensures c.in_err-answers-in-FetchAll.ensures.refused)
    c.in_err-answers-in-FetchAll.ensures.stopped)

pub returns-in_err-supply_all-in-FetchAll-clause-stops : goal.returns-in_err-supply_all-in-FetchAll-clause-stops
returns-in_err-supply_all-in-FetchAll-clause-stops g c =
    let exit = err_from_is_err_and c.from_residual-in_err-supply_all-in-FetchAll.result c.from_residual-in_err-supply_all-in-FetchAll.ensures.1 in
    reported_out c.from_residual-in_err-supply_all-in-FetchAll.result _ exit.0 OutOfMemory exit.1 exit.2 (inl refl)
