use Rattle.std.proofs.Common.{arith}
use Rattle.stm_report.proofs.RunHistories.{kept_now, whole_at_last}
use Rattle.stm_report.proofs.run_history.catch_up.Goals as goal

pub revisions-init : goal.revisions-init
revisions-init c = record {
  behind = c.requires;
  last = kept_now c.args.world.now c.keys.result.now.history c.revision-last.result c.store.result.now.standing c.requires.sound c.revision-last.ensures.value c.keys.ensures.history c.store.ensures.standing;
}

pub add_next-requires-clause-lacks : goal.add_next-requires-clause-lacks
add_next-requires-clause-lacks c = omega (arith, c.revision.ensures.value, c.revisions-test.true, c.revisions.invariant.last)

pub revisions-preserved : goal.revisions-preserved
revisions-preserved c = record { behind = c.in_ok-add_next.ensures.behind; last = c.revisions.invariant.last }

pub returns : goal.returns
returns c =
    whole_at_last c.revisions.whole.history c.args.world.now c.revisions.invariant.behind
    (omega (arith, c.revision.ensures.value, c.revisions-test.false, c.revisions.invariant.last))
