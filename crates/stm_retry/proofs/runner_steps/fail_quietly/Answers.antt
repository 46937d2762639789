use Rattle.std.proofs.Common.{Ok, sym, subst}
use Rattle.stm_steps.specs.declared.run.Run.{Run}
use Rattle.stm_attempt.specs.ReadyRun.{ReadyRun}
use Rattle.stm_journal.specs.JournalState.{JournalState}
use Rattle.stm_journal.proofs.Cases.{has_failed}
use Rattle.stm_world.specs.World.{Runner}
use Rattle.stm_retry.specs.RunnerView.{AreNamed}
use Rattle.stm_retry.proofs.StepLemmas.{of_run, fail_comes_to, refusal_comes_to, reread_named}
use Rattle.stm_retry.proofs.runner_steps.fail_quietly.Goals as goal

pub fail_commit-requires-clause-named : goal.fail_commit-requires-clause-named
fail_commit-requires-clause-named c =
    let ready : ReadyRun = c.args.ready in
    let j : JournalState = c.args.journal.now in
    let r : Runner = c.args.runner.now.runner in
    let run : Run = c.requires.is_ready.0 in
    let foreseen = rw c.in-Ok-Some-Failed.field-0-is at c.in-Ok-Some-Failed.ensures.verdict in
    let reported = rw c.in-Ok-Some-Failed.field-0-0-is at foreseen in
    let failed = has_failed j j ready run c.in-Ok-Some-Failed.key c.in-Ok-Some-Failed.seen c.in-Ok-Some-Failed.now
    c.in-Ok-Some-Failed.answers (of_run r run ready c.requires.is_ready.1 c.in-Ok-Some-Failed.ensures.run c.requires.named) reported in
    subst AreNamed (sym failed.answers_are) (reread_named j.standing.history ready.level ready.answers c.requires.named)

pub returns-in_ok-reported-in-Ok-Some-Failed : goal.returns-in_ok-reported-in-Ok-Some-Failed
returns-in_ok-reported-in-Ok-Some-Failed c = λ run x.
    let ready : ReadyRun = c.args.ready in
    let j : JournalState = c.args.journal.now in
    let r : Runner = c.args.runner.now.runner in
    let q : Runner = c.fail_commit.new.runner.runner in
    let foreseen = rw c.in-Ok-Some-Failed.field-0-is at c.in-Ok-Some-Failed.ensures.verdict in
    let reported = rw c.in-Ok-Some-Failed.field-0-0-is at foreseen in
    let failed = has_failed j j ready run c.in-Ok-Some-Failed.key c.in-Ok-Some-Failed.seen c.in-Ok-Some-Failed.now
    c.in-Ok-Some-Failed.answers (of_run r run ready x c.in-Ok-Some-Failed.ensures.run c.requires.named) reported in
    fail_comes_to c.args.id r q run ready j j c.in-Ok-Some-Failed.key c.in-Ok-Some-Failed.seen c.in-Ok-Some-Failed.now
    c.in-Ok-Some-Failed.answers (Ok c.in_ok-reported-in-Ok-Some-Failed.reported) x failed c.in_ok-reported-in-Ok-Some-Failed.ensures.reported
    c.in_ok-reported-in-Ok-Some-Failed.ensures.again tt

pub returns-in_ok-reported-in-Err : goal.returns-in_ok-reported-in-Err
returns-in_ok-reported-in-Err c = λ run x.
    let ready : ReadyRun = c.args.ready in
    let j : JournalState = c.args.journal.now in
    let r : Runner = c.args.runner.now.runner in
    let refused = c.in-Err.ensures.verdict in
    refusal_comes_to c.args.id r run ready j j c.in-Err.cause (Ok c.in_ok-reported-in-Err.reported) x
    (of_run r run ready x c.in-Err.ensures.run c.requires.named) c.in_ok-reported-in-Err.ensures.reported c.in_ok-reported-in-Err.ensures.refused
    refused.0 refused.1
