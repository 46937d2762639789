use Rattle.std.proofs.Common.{Ok, refl}
use Rattle.stm_txn.specs.Standing.{kept_alive}
use Rattle.stm_entries.specs.declared.entry.Entry.{Entry}
use Rattle.stm_entries.specs.declared.entry.Entry.TheVariants.{Renew}
use Rattle.stm_journal.specs.JournalState.{JournalState}
use Rattle.stm_journal.specs.Entering.{renewed_in}
use Rattle.stm_events.specs.declared.event.WorldEvent.TheVariants.{Keep}
use Rattle.stm_events.specs.declared.reply.Reply.TheVariants.{Kept}
use Rattle.stm_world.proofs.NeverOutOfMemory.{kept_never}
use Rattle.stm_retry.proofs.CallLemmas.{call_taken, call_refused, entry_is_call, entry_never}
use Rattle.stm_retry.proofs.store_calls.keep.Goals as goal

pub returns-in-Ok : goal.returns-in-Ok
returns-in-Ok c =
    let j : JournalState = c.args.journal.now in
    let entry : Entry = Renew c.args.id j.standing.moment in
    call_taken (Keep c.args.id) (λ _. Kept c.args.id) j c.keep_alive.new.self (renewed_in j c.args.id) tt (Ok (Kept c.args.id))
    (λ runners. entry_is_call (λ _. Kept c.args.id) j runners entry (kept_alive j.standing c.args.id)) c.in-Ok.ensures refl

pub returns-in-Err : goal.returns-in-Err
returns-in-Err c =
    let j : JournalState = c.args.journal.now in
    let entry : Entry = Renew c.args.id j.standing.moment in
    call_refused (Keep c.args.id) (λ _. Kept c.args.id) j c.keep_alive.new.self (renewed_in j c.args.id) c.in-Err.cause c.refuse.result
    (λ runners. entry_is_call (λ _. Kept c.args.id) j runners entry (kept_alive j.standing c.args.id)) (λ runners taken. ((refl, refl), taken))
    (entry_never j entry (kept_alive j.standing c.args.id) (kept_never j.standing c.args.id)) c.in-Err.ensures c.refuse.ensures
