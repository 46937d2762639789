use Rattle.std.proofs.Common.{◌∙◌, inl, refl, arith, subst, ℕ, List, true≢false, sym}
use Rattle.std.proofs.lemmas.Result.{err_from_is_err_and}
use Rattle.stm_attempt.specs.AttemptState.{AttemptState}
use Rattle.stm_workers.specs.declared.stop.Stop.TheVariants.{OutOfMemory}
use Rattle.stm_workers.specs.Attempts.{state_of, ComesTo, HasFailed, HasStopped}
use Rattle.stm_workers.specs.Calls.{IsOfJob}
use Rattle.stm_workers.proofs.AttemptLemmas.{reported_out, at_again, at_ended, first_is_next, one_lost, ends_at, stops_at}
use Rattle.stm_workers.proofs.access.HallAccess.attempt_from.Goals as goal

pub loop-init : goal.loop-init
loop-init g c = record {
  attempt = c.requires.is_its;
  parts = refl;
  amount = refl;
  seen = omega arith;
  lost = first_is_next g.R.RunOfJobs.before c.args.job.now c.args.seen.now c.args.attempt.now c.args.lost.now.items c.requires.none c.requires.begun;
}

-- one more has failed
pub loop-preserved : goal.loop-preserved
loop-preserved g c =
    let so_far = c.loop.invariant in
    let goes = at_again _ c.in_ok-end.field-0 c.in-Again.key c.in-Again.is c.in_ok-end.ensures.again in
    let fails = at_again _ c.in_ok-end.field-0 c.in-Again.key c.in-Again.is c.in_ok-end.ensures.fails in
    record {
      attempt = goes.0;
      parts = c.try_by_verdict.ensures.parts ∙ so_far.parts;
      amount = goes.1 ∙ so_far.amount;
      seen = let earlier = so_far.seen in let here = c.try_by_verdict.ensures.never_falls in omega (arith, earlier, here);
      lost = one_lost g.R.RunOfJobs.before c.args.job.now c.args.seen.now c.loop.counter c.loop.lost.items c.note_lost.new.lost.items c.in-Again.key
          (state_of c.loop.attempt c.loop.seen) (state_of c.try_by_verdict.new.attempt c.try_by_verdict.new.seen) so_far.lost fails.1
          c.in_ok-note_lost-in-Again.ensures.noted;
    }

-- its key could not be noted
pub returns-in_err-note_lost-in-Again-clause-stops : goal.returns-in_err-note_lost-in-Again-clause-stops
returns-in_err-note_lost-in-Again-clause-stops g c =
    let exit = err_from_is_err_and c.from_residual-in_err-note_lost-in-Again.result c.from_residual-in_err-note_lost-in-Again.ensures.1 in
    let stopped = stops_at g.R.RunOfJobs.before c.args.job.now c.args.seen.now c.loop.counter c.try_by_verdict.new.seen c.loop.lost.items
    (state_of c.loop.attempt c.loop.seen) OutOfMemory c.loop.invariant.lost (omega arith) (inl refl) in
    reported_out c.from_residual-in_err-note_lost-in-Again.result _ exit.0 OutOfMemory exit.1 exit.2
    (subst
    (λ (keys : List (List ℕ)). ComesTo g.R.RunOfJobs.before c.args.job.now c.args.seen.now keys
    (λ last. HasStopped g.R.RunOfJobs.before c.args.job.now last OutOfMemory c.try_by_verdict.new.seen))
    (sym c.in_err-note_lost-in-Again.ensures.unchanged) stopped)

-- the last one goes no further
pub returns-in_err-end-2-clause-stops : goal.returns-in_err-end-2-clause-stops
returns-in_err-end-2-clause-stops g c =
    let exit = err_from_is_err_and c.from_residual-in_err-end-2.result c.from_residual-in_err-end-2.ensures.1 in
    reported_out c.from_residual-in_err-end-2.result _ exit.0 c.in_err-end-2.field-0.0 exit.1 exit.2
    (stops_at g.R.RunOfJobs.before c.args.job.now c.args.seen.now c.loop.counter c.try_by_verdict-2.new.seen c.loop.lost.items (state_of c.loop.attempt c.loop.seen)
    c.in_err-end-2.field-0.0 c.loop.invariant.lost (omega arith) c.in_err-end-2.ensures.stops)

-- it goes no further
pub returns-in_err-end-clause-stops : goal.returns-in_err-end-clause-stops
returns-in_err-end-clause-stops g c =
    let exit = err_from_is_err_and c.from_residual.result c.from_residual.ensures.1 in
    reported_out c.from_residual.result _ exit.0 c.in_err-end.field-0.0 exit.1 exit.2
    (stops_at g.R.RunOfJobs.before c.args.job.now c.args.seen.now c.loop.counter c.try_by_verdict.new.seen c.loop.lost.items (state_of c.loop.attempt c.loop.seen)
    c.in_err-end.field-0.0 c.loop.invariant.lost (omega arith) c.in_err-end.ensures.stops)

-- its commit was made
pub returns-in-Ended-clause-ends : goal.returns-in-Ended-clause-ends
returns-in-Ended-clause-ends g c =
    ends_at g.R.RunOfJobs.before c.args.job.now c.args.seen.now c.loop.counter c.try_by_verdict.new.seen c.loop.lost.items (state_of c.loop.attempt c.loop.seen) _
    c.in-Ended.end c.loop.invariant.lost (omega arith) (λ last. absurd (true≢false (sym last)))
    (at_ended _ c.in_ok-end.field-0 c.in-Ended.end c.in-Ended.is c.in_ok-end.ensures.ends)
