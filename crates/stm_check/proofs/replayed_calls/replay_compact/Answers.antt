use Rattle.std.proofs.Common.{ap, Ok, refl}
use Rattle.stm_txn.specs.Standing.{raised}
use Rattle.stm_txn.specs.Store.{StoreView}
use Rattle.stm_events.specs.declared.reply.Reply.TheVariants.{Compacted}
use Rattle.stm_events.specs.Called.{Compact, plainly}
use Rattle.stm_check.proofs.CallLemmas.{taken, refused}
use Rattle.stm_check.proofs.replayed_calls.replay_compact.Goals as goal

pub returns-in-Ok : goal.returns-in-Ok
returns-in-Ok c =
    let s = c.args.store.now.standing in
    let tested = taken c.is_reply.result s c.raise_floor.new.self.standing (Compact c.args.revision) (Ok (Compacted c.args.revision)) c.args.reply.now
    (record { asks = λ x same. same; leaves = refl; few = tt }) (ap (plainly (λ _. Compacted c.args.revision) s) c.in-Ok.ensures.step) c.is_reply.ensures in
    record { right = tested.0; next = tested.1 }

pub returns-in-Err : goal.returns-in-Err
returns-in-Err c =
    let s = c.args.store.now.standing in
    let tested = refused c.is_refused.result (λ _. Compacted c.args.revision) s c.raise_floor.new.self.standing (Compact c.args.revision) (raised s c.args.revision) c.in-Err.cause c.args.reply.now
    (record { asks = λ x same. same; leaves = refl; few = tt }) refl (λ other. c.in-Err.ensures.step)
    (ap (λ (v : StoreView). v.standing) c.in-Err.ensures.err) c.is_refused.ensures.memory c.is_refused.ensures.replied in
    record { right = tested.0; next = tested.1 }
