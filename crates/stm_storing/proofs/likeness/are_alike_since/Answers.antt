use Rattle.stm_storing.proofs.JobLemmas.{alike}
use Rattle.stm_storing.proofs.likeness.are_alike_since.Goals as goal

pub returns : goal.returns
returns c = λ same.
    alike c.args.since c.args.left.now.standing c.args.right.now.standing c.keys-keys.result.now.history c.keys-keys_there.result.now.history
    c.keys-keys.ensures.history c.keys-keys_there.ensures.history (c.are_at_one_revision.ensures c.if-not-are_at_one_revision.false)
    (c.have_same_events.ensures same) (c.are_at_one_moment.ensures c.if-not-are_at_one_moment.false)
