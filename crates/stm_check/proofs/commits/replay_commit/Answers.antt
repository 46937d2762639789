use Rattle.std.proofs.Common.{Option, subst}
use Rattle.std.proofs.lemmas.Result.{IfOk-weaker}
use Rattle.stm_history.specs.History.{History}
use Rattle.stm_steps.specs.declared.run.Run.{Run}
use Rattle.stm_txn.specs.Standing.{Standing}
use Rattle.stm_check.specs.Runs.{IsRunReported, IsFound}
use Rattle.stm_check.proofs.CommitLemmas.{run_right}
use Rattle.stm_check.proofs.commits.replay_commit.Goals as goal

pub returns-clause-right : goal.returns-clause-right
returns-clause-right c =
    let s : Standing = c.args.store.now.standing in
    let r = c.args.runner.now in
    let reported = c.args.reported in
    let run = c.in-Some.run' in
    let found : IsFound r.level s.history r.program reported.answers.now c.in_ok-run.field-0 =
    subst (λ (h : History). IsFound r.level h r.program reported.answers.now c.in_ok-run.field-0) c.keys.ensures.history c.in_ok-run.ensures in
    let is_reported : IsRunReported r.level s.history r.program reported.answers.now run =
    subst (λ (o : Option Run). IsFound r.level s.history r.program reported.answers.now o) c.in-Some.is found in
    IfOk-weaker c.replay_run-right.result _ _ (λ b test. run_right b s r run reported.revision reported.attempts reported.output.now reported.trace.now reported.answers.now is_reported
    (c.is_next_attempt.ensures.0 c.if-not-is_next_attempt.false) test) c.replay_run-right.ensures.right
