use Rattle.std.proofs.Common.{◌≡◌, ◌∙◌, Ok, refl, ap}
use Rattle.stm_txn.specs.Standing.{Standing, transacted, refusal_of}
use Rattle.stm_journal.specs.JournalState.{JournalState}
use Rattle.stm_journal.specs.Entering.{made, or_out_of_memory}
use Rattle.stm_events.specs.declared.event.WorldEvent.TheVariants.{Txn}
use Rattle.stm_events.specs.declared.reply.Reply.{Reply}
use Rattle.stm_events.specs.Replies.{txn_reply}
use Rattle.stm_world.proofs.Wants.{transacted_never}
use Rattle.stm_retry.proofs.CallLemmas.{call_taken, call_refused, txn_is_call, txn_never}
use Rattle.stm_retry.proofs.TxnReplies.{answers_fit, refused_without_room}
use Rattle.stm_retry.proofs.store_calls.reply_to_txn.Goals as goal

-- there is room for the replies of either branch
pub fill_reply-requires-clause-room : goal.fill_reply-requires-clause-room
fill_reply-requires-clause-room c =
    answers_fit c.args.journal.now c.make_txn.new.self c.args.txn.now c.in-Ok-make_txn.answer _ c.in-Ok-make_txn.ensures.made c.in-Ok.ensures.success
    c.in-Ok.ensures.failure

pub returns-in-Ok-make_txn : goal.returns-in-Ok-make_txn
returns-in-Ok-make_txn c =
    let j : JournalState = c.args.journal.now in
    call_taken (Txn c.args.txn.now) txn_reply j c.make_txn.new.self (made j c.args.txn.now) c.in-Ok-make_txn.answer (Ok c.fill_reply.result)
    (λ runners. txn_is_call j c.args.txn.now runners (transacted j.standing c.args.txn.now)) c.in-Ok-make_txn.ensures.made
    (ap (λ (r : Reply). Ok r) c.fill_reply.ensures)

pub returns-in-Err : goal.returns-in-Err
returns-in-Err c =
    let j : JournalState = c.args.journal.now in
    call_refused (Txn c.args.txn.now) txn_reply j c.make_txn.new.self (made j c.args.txn.now) c.in-Err.cause c.refuse-in-Err.result
    (λ runners. txn_is_call j c.args.txn.now runners (transacted j.standing c.args.txn.now)) (λ runners taken. ((refl, refl), taken))
    (txn_never j c.args.txn.now (transacted j.standing c.args.txn.now) (transacted_never j.standing c.args.txn.now)) c.in-Err.ensures.made c.refuse-in-Err.ensures

-- there was no room
pub returns-in_default : goal.returns-in_default
returns-in_default c =
    let j : JournalState = c.args.journal.now in
    let cause_is : c.cause_without_room.result ≡ or_out_of_memory (refusal_of (transacted j.standing c.args.txn.now)) =
    c.cause_without_room.ensures ∙ ap (λ (s : Standing). or_out_of_memory (refusal_of (transacted s c.args.txn.now))) c.store.ensures in
    call_refused (Txn c.args.txn.now) txn_reply j j (made j c.args.txn.now) c.cause_without_room.result c.refuse.result
    (λ runners. txn_is_call j c.args.txn.now runners (transacted j.standing c.args.txn.now)) (λ runners taken. ((refl, refl), taken))
    (txn_never j c.args.txn.now (transacted j.standing c.args.txn.now) (transacted_never j.standing c.args.txn.now))
    (refused_without_room j c.args.txn.now c.cause_without_room.result cause_is, refl) c.refuse.ensures
