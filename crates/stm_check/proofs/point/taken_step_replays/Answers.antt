use Rattle.std.proofs.Common.{ap}
use Rattle.std.specs.Prelude.{option_copied}
use Rattle.stm_check.proofs.CommitLemmas.{step_right}
use Rattle.stm_check.proofs.point.taken_step_replays.Goals as goal

pub returns-in-Some-clause-right : goal.returns-in-Some-clause-right
returns-in-Some-clause-right c =
    step_right c.replay_commit.result c.args.store.now.standing (option_copied c.args.runner) c.args.reply.now c.in-Some.runner.now
    c.in-Committed.runner c.in-Committed.revision c.in-Committed.attempts c.in-Committed.output c.as_slice.result.now c.in-Committed.trace
    c.as_slice-in-Some.result.now c.in-Committed.answers c.as_slice-in-Some-2.result.now (ap option_copied c.in-Some.is) c.in-Committed.is
    c.as_slice.ensures c.as_slice-in-Some.ensures c.as_slice-in-Some-2.ensures c.replay_commit.ensures.right
