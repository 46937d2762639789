use Rattle.std.proofs.Common.{Ok, Result, refl, sym, subst}
use Rattle.stm_outcome.specs.declared.refusal.Refusal.{Refusal}
use Rattle.stm_txn.specs.Standing.{Step, IsRefusalOf, cancelled}
use Rattle.stm_journal.specs.JournalState.{JournalState}
use Rattle.stm_events.specs.declared.event.WorldEvent.TheVariants.{Cancel}
use Rattle.stm_events.specs.declared.reply.Reply.TheVariants.{Cancelled}
use Rattle.stm_world.proofs.NeverOutOfMemory.{cancelled_never}
use Rattle.stm_retry.proofs.WatchCalls.{watch_taken, watch_refused}
use Rattle.stm_retry.proofs.watch_calls.cancel.Goals as goal

pub returns-in-Ok : goal.returns-in-Ok
returns-in-Ok c =
    let j : JournalState = c.args.journal.now in
    watch_taken (Cancel c.args.watcher) (λ _. Cancelled c.args.watcher) j c.cancel.new.self (cancelled j.standing c.args.watcher) tt (Ok (Cancelled c.args.watcher))
    (λ runners es. refl) c.in-Ok.ensures.step c.in-Ok.ensures.same refl

pub returns-in-Err : goal.returns-in-Err
returns-in-Err c =
    let j : JournalState = c.args.journal.now in
    watch_refused (Cancel c.args.watcher) (λ _. Cancelled c.args.watcher) j c.cancel.new.self (cancelled j.standing c.args.watcher) c.refuse.result c.in-Err.cause
    (λ runners es. refl) (λ runners es taken. ((refl, refl), taken)) (cancelled_never j.standing c.args.watcher)
    (subst (λ (o : Result (Step (Unit {0})) Refusal). IsRefusalOf o c.in-Err.cause) (sym c.in-Err.ensures.step) refl) c.refuse.ensures c.in-Err.ensures.err
