use Rattle.std.proofs.Common.{Bool, subst, sym}
use Rattle.stm_driving.specs.WorldCommits.{IsTaken}
use Rattle.stm_driving.proofs.TakenTxns.{is_taken, refused_leaves}
use Rattle.stm_driving.proofs.world_commit.make_txn.Goals as goal

pub returns-in-Ok-clause-ok : goal.returns-in-Ok-clause-ok
returns-in-Ok-clause-ok c =
    subst (λ (held : Bool). IsTaken c.args.world.now c.args.txn held c.step.new.self) (sym c.has_held.ensures)
    (is_taken c.args.world.now c.step.new.self c.args.txn c.in-Ok.reply c.in-Ok.ensures.reported)

pub returns-clause-err : goal.returns-clause-err
returns-clause-err c = refused_leaves c.args.world.now c.step.new.self c.args.txn c.in-Err.field-0 c.in-Err.ensures.reported
