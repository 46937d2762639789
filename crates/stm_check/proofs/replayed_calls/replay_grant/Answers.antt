use Rattle.std.proofs.Common.{ap, Ok, refl}
use Rattle.stm_txn.specs.Standing.{granted}
use Rattle.stm_txn.specs.Store.{StoreView}
use Rattle.stm_events.specs.declared.reply.Reply.TheVariants.{Granted}
use Rattle.stm_events.specs.Called.{Grant, plainly}
use Rattle.stm_check.proofs.CallLemmas.{taken, refused_for, refused}
use Rattle.stm_check.proofs.replayed_calls.replay_grant.Goals as goal

pub returns-in-Ok : goal.returns-in-Ok
returns-in-Ok c =
    let s = c.args.store.now.standing in
    let tested = taken c.is_reply.result s c.grant.new.self.standing (Grant c.args.id c.args.ttl) (Ok (Granted c.args.id)) c.args.reply.now
    (record { asks = λ x same. same; leaves = refl; few = tt }) (ap (plainly (λ _. Granted c.args.id) s) c.in-Ok.ensures.step) c.is_reply.ensures in
    record { right = tested.0; next = tested.1 }

pub returns-in-Err : goal.returns-in-Err
returns-in-Err c =
    let s = c.args.store.now.standing in
    let tested = refused c.is_refused.result (λ _. Granted c.args.id) s c.grant.new.self.standing (Grant c.args.id c.args.ttl) (granted s c.args.id c.args.ttl) c.in-Err.cause c.args.reply.now
    (record { asks = λ x same. same; leaves = refl; few = tt }) refl (refused_for (granted s c.args.id c.args.ttl) c.in-Err.cause c.in-Err.ensures.step)
    (ap (λ (v : StoreView). v.standing) c.in-Err.ensures.err) c.is_refused.ensures.memory c.is_refused.ensures.replied in
    record { right = tested.0; next = tested.1 }
