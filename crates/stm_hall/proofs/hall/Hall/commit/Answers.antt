use Rattle.stm_hall.proofs.Keeping.{commit_keeps, commit_alone}
use Rattle.stm_hall.proofs.hall.Hall.commit.Goals as goal

pub invariant_of-self : goal.invariant_of-self
invariant_of-self c =
    (commit_keeps c.self.inside.journal c.commit.new.self c.args.ready.now c.commit.result c.self.invariant c.commit.ensures.run c.commit.ensures.verdict).locked

pub returns-clause-goes_on : goal.returns-clause-goes_on
returns-clause-goes_on c =
    let kept = commit_keeps c.self.inside.journal c.commit.new.self c.args.ready.now c.commit.result c.self.invariant c.commit.ensures.run
    c.commit.ensures.verdict in
    rw c.self.view_is at kept.goes

-- the program alone changes the store so
pub returns-clause-alone : goal.returns-clause-alone
returns-clause-alone c =
    let alone = commit_alone c.self.inside.journal c.commit.new.self c.args.ready.now c.commit.result c.self.invariant c.commit.ensures.run
    c.commit.ensures.verdict in
    rw c.self.view_is at alone
