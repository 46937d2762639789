use Rattle.std.proofs.Common.{ap, Ok, refl}
use Rattle.stm_txn.specs.Standing.{transacted}
use Rattle.stm_txn.specs.Store.{StoreView}
use Rattle.stm_events.specs.Replies.{txn_reply}
use Rattle.stm_events.specs.Called.{Txn, plainly}
use Rattle.stm_check.proofs.CallLemmas.{taken, refused_for, refused}
use Rattle.stm_check.proofs.replayed_calls.replay_txn.Goals as goal

pub returns-in-Ok : goal.returns-in-Ok
returns-in-Ok c =
    let s = c.args.store.now.standing in
    let tested = taken c.is_answered.result s c.txn.new.self.standing (Txn c.args.txn.now) (Ok (txn_reply c.in-Ok.answer)) c.args.reply.now
    (record { asks = λ x same. same; leaves = refl; few = c.limit-few.ensures.few }) (ap (plainly txn_reply s) c.in-Ok.ensures.step) c.is_answered.ensures in
    record { right = tested.0; next = tested.1 }

pub returns-in-Err : goal.returns-in-Err
returns-in-Err c =
    let s = c.args.store.now.standing in
    let tested = refused c.is_refused.result txn_reply s c.txn.new.self.standing (Txn c.args.txn.now) (transacted s c.args.txn.now) c.in-Err.cause c.args.reply.now
    (record { asks = λ x same. same; leaves = refl; few = c.limit-few.ensures.few }) refl (refused_for (transacted s c.args.txn.now) c.in-Err.cause c.in-Err.ensures.step)
    (ap (λ (v : StoreView). v.standing) c.in-Err.ensures.err) c.is_refused.ensures.memory c.is_refused.ensures.replied in
    record { right = tested.0; next = tested.1 }
