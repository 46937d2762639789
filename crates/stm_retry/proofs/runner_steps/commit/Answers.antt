use Rattle.std.proofs.Common.{Ok, sym, subst}
use Rattle.stm_steps.specs.declared.run.Run.{Run}
use Rattle.stm_attempt.specs.ReadyRun.{ReadyRun}
use Rattle.stm_journal.specs.JournalState.{JournalState}
use Rattle.stm_journal.proofs.Cases.{has_committed, has_failed}
use Rattle.stm_world.specs.World.{Runner, commit}
use Rattle.stm_retry.specs.declared.step_outcome.StepOutcome.TheVariants.{Ends}
use Rattle.stm_retry.specs.RunnerView.{AreNamed}
use Rattle.stm_retry.specs.RunnerReturns.{workplace, Leaves}
use Rattle.stm_events.specs.declared.reply.Reply.{Reply}
use Rattle.stm_retry.proofs.StepLemmas.{of_run, take_leaves, fail_comes_to, refusal_comes_to, reread_named}
use Rattle.stm_retry.proofs.runner_steps.commit.Goals as goal

pub returns-in-Ok-Committed : goal.returns-in-Ok-Committed
returns-in-Ok-Committed c run x =
    let r : Runner = c.args.runner.now.runner in
    let ready : ReadyRun = c.args.ready in
    let j : JournalState = c.args.journal.now in
    let after : JournalState = c.commit_trusted.new.self in
    let revision = c.in-Ok-Committed.revision in
    let reported = rw c.in-Ok-Committed.field-0-is at c.in-Ok-Committed.ensures.verdict in
    let made = has_committed j after ready run _ revision (of_run r run ready x c.in-Ok-Committed.ensures.run c.requires.named) reported in
    subst (λ (reply : Reply). Leaves c.args.id (Ok (Ends reply)) (workplace j r) (workplace after r) (commit c.args.id r r.known.reads run))
    (sym c.reply_committed.ensures)
    (take_leaves c.args.id r r run ready j after revision c.attempts-attempts.result c.in-Ok.copies.output c.in-Ok.copies.trace c.in-Ok.copies.answers
    x made c.attempts-attempts.ensures c.in-Ok.ensures.output c.in-Ok.ensures.trace c.in-Ok.ensures.answers)

pub fail_commit-requires-clause-named : goal.fail_commit-requires-clause-named
fail_commit-requires-clause-named c =
    let ready : ReadyRun = c.args.ready in
    let j : JournalState = c.args.journal.now in
    let r : Runner = c.args.runner.now.runner in
    let run : Run = c.requires.is_ready.0 in
    let reported = rw c.in-Ok-Failed.field-0-is at c.in-Ok-Failed.ensures.verdict in
    let failed = has_failed j c.commit_trusted.new.self ready run c.in-Ok-Failed.key c.in-Ok-Failed.seen c.in-Ok-Failed.now
    c.in-Ok-Failed.answers (of_run r run ready c.requires.is_ready.1 c.in-Ok-Failed.ensures.run c.requires.named) reported in
    subst AreNamed (sym failed.answers_are) (reread_named j.standing.history ready.level ready.answers c.requires.named)

pub returns-in-Ok-Failed : goal.returns-in-Ok-Failed
returns-in-Ok-Failed c run x =
    let r : Runner = c.args.runner.now.runner in
    let q : Runner = c.fail_commit.new.runner.runner in
    let ready : ReadyRun = c.args.ready in
    let j : JournalState = c.args.journal.now in
    let after : JournalState = c.commit_trusted.new.self in
    let reported = rw c.in-Ok-Failed.field-0-is at c.in-Ok-Failed.ensures.verdict in
    let failed = has_failed j after ready run c.in-Ok-Failed.key c.in-Ok-Failed.seen c.in-Ok-Failed.now c.in-Ok-Failed.answers
    (of_run r run ready x c.in-Ok-Failed.ensures.run c.requires.named) reported in
    fail_comes_to c.args.id r q run ready j after c.in-Ok-Failed.key c.in-Ok-Failed.seen c.in-Ok-Failed.now
    c.in-Ok-Failed.answers c.fail_commit.result x failed c.fail_commit.ensures.reported c.fail_commit.ensures.again c.fail_commit.ensures.err

pub returns-in-Err : goal.returns-in-Err
returns-in-Err c run x =
    let r : Runner = c.args.runner.now.runner in
    let ready : ReadyRun = c.args.ready in
    let j : JournalState = c.args.journal.now in
    let after : JournalState = c.commit_trusted.new.self in
    let refused = c.in-Err.ensures.verdict in
    refusal_comes_to c.args.id r run ready j after c.in-Err.cause c.end_refused.result x (of_run r run ready x c.in-Err.ensures.run c.requires.named)
    c.end_refused.ensures.reported c.end_refused.ensures.refused refused.0 refused.1
