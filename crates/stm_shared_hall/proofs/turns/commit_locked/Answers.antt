use Rattle.stm_shared_hall.proofs.There.{is_there}
use Rattle.stm_shared_hall.proofs.turns.commit_locked.Goals as goal

pub returns : goal.returns
returns c =
    is_there c.args.hall.now c.commit.new.self c.args.level c.args.reads.now c.args.writes.now c.commit.result c.entries-entries.ensures.locked
    c.commit.ensures.outcome
