use Rattle.std.proofs.Common.{Ok, refl}
use Rattle.stm_txn.specs.Standing.{revoked}
use Rattle.stm_entries.specs.declared.entry.Entry.{Entry}
use Rattle.stm_entries.specs.declared.entry.Entry.TheVariants.{Revoke as RevokeEntry}
use Rattle.stm_journal.specs.JournalState.{JournalState}
use Rattle.stm_journal.specs.Entering.{revoked_in}
use Rattle.stm_events.specs.declared.event.WorldEvent.TheVariants.{Revoke}
use Rattle.stm_events.specs.declared.reply.Reply.TheVariants.{Revoked}
use Rattle.stm_world.proofs.NeverOutOfMemory.{revoked_never}
use Rattle.stm_retry.proofs.CallLemmas.{call_taken, call_refused, entry_is_call, entry_never}
use Rattle.stm_retry.proofs.store_calls.revoke.Goals as goal

pub returns-in-Ok : goal.returns-in-Ok
returns-in-Ok c =
    let j : JournalState = c.args.journal.now in
    let entry : Entry = RevokeEntry c.args.id in
    call_taken (Revoke c.args.id) (Revoked c.args.id) j c.revoke.new.self (revoked_in j c.args.id) c.in-Ok.revision (Ok (Revoked c.args.id c.in-Ok.revision))
    (λ runners. entry_is_call (Revoked c.args.id) j runners entry (revoked j.standing c.args.id)) c.in-Ok.ensures refl

pub returns-in-Err : goal.returns-in-Err
returns-in-Err c =
    let j : JournalState = c.args.journal.now in
    let entry : Entry = RevokeEntry c.args.id in
    call_refused (Revoke c.args.id) (Revoked c.args.id) j c.revoke.new.self (revoked_in j c.args.id) c.in-Err.cause c.refuse.result
    (λ runners. entry_is_call (Revoked c.args.id) j runners entry (revoked j.standing c.args.id)) (λ runners taken. ((refl, refl), taken))
    (entry_never j entry (revoked j.standing c.args.id) (revoked_never j.standing c.args.id)) c.in-Err.ensures c.refuse.ensures
