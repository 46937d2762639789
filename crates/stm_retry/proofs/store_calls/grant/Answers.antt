use Rattle.std.proofs.Common.{Ok, refl}
use Rattle.stm_txn.specs.Standing.{granted}
use Rattle.stm_entries.specs.declared.entry.Entry.{Entry}
use Rattle.stm_entries.specs.declared.entry.Entry.TheVariants.{Grant as GrantEntry}
use Rattle.stm_journal.specs.JournalState.{JournalState}
use Rattle.stm_journal.specs.Entering.{granted_in}
use Rattle.stm_events.specs.declared.event.WorldEvent.TheVariants.{Grant}
use Rattle.stm_events.specs.declared.reply.Reply.TheVariants.{Granted}
use Rattle.stm_world.proofs.NeverOutOfMemory.{granted_never}
use Rattle.stm_retry.proofs.CallLemmas.{call_taken, call_refused, entry_is_call, entry_never}
use Rattle.stm_retry.proofs.store_calls.grant.Goals as goal

pub returns-in-Ok : goal.returns-in-Ok
returns-in-Ok c =
    let j : JournalState = c.args.journal.now in
    let entry : Entry = GrantEntry c.args.id c.args.ttl j.standing.moment in
    call_taken (Grant c.args.id c.args.ttl) (λ _. Granted c.args.id) j c.grant.new.self (granted_in j c.args.id c.args.ttl) tt (Ok (Granted c.args.id))
    (λ runners. entry_is_call (λ _. Granted c.args.id) j runners entry (granted j.standing c.args.id c.args.ttl)) c.in-Ok.ensures refl

pub returns-in-Err : goal.returns-in-Err
returns-in-Err c =
    let j : JournalState = c.args.journal.now in
    let entry : Entry = GrantEntry c.args.id c.args.ttl j.standing.moment in
    call_refused (Grant c.args.id c.args.ttl) (λ _. Granted c.args.id) j c.grant.new.self (granted_in j c.args.id c.args.ttl) c.in-Err.cause c.refuse.result
    (λ runners. entry_is_call (λ _. Granted c.args.id) j runners entry (granted j.standing c.args.id c.args.ttl)) (λ runners taken. ((refl, refl), taken))
    (entry_never j entry (granted j.standing c.args.id c.args.ttl) (granted_never j.standing c.args.id c.args.ttl)) c.in-Err.ensures c.refuse.ensures
