use Rattle.std.proofs.Common.{Ok, refl}
use Rattle.stm_watch.specs.declared.watched.Watched.TheVariants.{Range}
use Rattle.stm_txn.specs.Standing.{watched}
use Rattle.stm_journal.specs.JournalState.{JournalState}
use Rattle.stm_events.specs.declared.event.WorldEvent.TheVariants.{WatchRange}
use Rattle.stm_events.specs.declared.reply.Reply.TheVariants.{Watching}
use Rattle.stm_world.proofs.NeverOutOfMemory.{watched_never}
use Rattle.stm_retry.proofs.WatchCalls.{watch_taken, watch_refused}
use Rattle.stm_retry.proofs.watch_calls.watch_range.Goals as goal

pub returns-in-Ok : goal.returns-in-Ok
returns-in-Ok c =
    let j : JournalState = c.args.journal.now in
    watch_taken (WatchRange c.args.first.now c.args.end.now c.args.from) Watching j c.watch_range.new.self
    (watched j.standing (Range c.args.first.now c.args.end.now) c.args.from) c.in-Ok.watcher (Ok (Watching c.in-Ok.watcher))
    (λ runners es. refl) c.in-Ok.ensures.step c.in-Ok.ensures.same refl

pub returns-in-Err : goal.returns-in-Err
returns-in-Err c =
    let j : JournalState = c.args.journal.now in
    watch_refused (WatchRange c.args.first.now c.args.end.now c.args.from) Watching j c.watch_range.new.self
    (watched j.standing (Range c.args.first.now c.args.end.now) c.args.from) c.refuse.result c.in-Err.cause
    (λ runners es. refl) (λ runners es taken. ((refl, refl), taken)) (watched_never j.standing (Range c.args.first.now c.args.end.now) c.args.from)
    c.in-Err.ensures.step c.refuse.ensures c.in-Err.ensures.err
