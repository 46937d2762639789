use Rattle.std.proofs.Common.{Bool, subst, ◌∙◌, ap, rules}
use Rattle.stm_txn.specs.Standing.{Standing}
use Rattle.stm_driving.specs.WorldCommits.{IsTaken}
use Rattle.stm_driving.proofs.TakenTxns.{committed_in_world, turned_down_in_world}
use Rattle.stm_driving.proofs.world_commit.commit_to_world.Goals as goal

-- no compare failed
pub returns-then-branch : goal.returns-then-branch
returns-then-branch c =
    let w = c.args.world.now in
    committed_in_world w c.make_txn.new.world c.args.level c.args.reads.now c.args.writes.now c.in_ok-txn.txn c.keys.result.now.history c.store.ensures.reached
    (c.keys.ensures.history ∙ ap (λ (s : Standing). s.history) c.store.ensures.standing) (search rules) (search rules)
    (subst (λ (held : Bool). IsTaken w c.in_ok-txn.txn held c.make_txn.new.world) c.if-branch.true c.in_ok-make_txn.ensures.ok)

-- one failed
pub returns : goal.returns
returns c =
    let w = c.args.world.now in
    turned_down_in_world w c.make_txn.new.world c.args.level c.args.reads.now c.args.writes.now c.in_ok-txn.txn (search rules)
    (subst (λ (held : Bool). IsTaken w c.in_ok-txn.txn held c.make_txn.new.world) c.if-branch.false c.in_ok-make_txn.ensures.ok)
