use Rattle.std.proofs.Common.{Err, sym, subst}
use Rattle.stm_events.specs.declared.event.WorldEvent.TheVariants.{Advance}
use Rattle.stm_events.specs.declared.refusal.EventRefusal.{EventRefusal}
use Rattle.stm_retry.specs.CallReturns.{CallReturns}
use Rattle.stm_retry.proofs.CallLemmas.{advance_taken, advance_stopped}
use Rattle.stm_retry.proofs.store_calls.advance.Goals as goal

pub returns-in-Ok : goal.returns-in-Ok
returns-in-Ok c =
    advance_taken c.args.journal.now c.advance.new.self c.args.moment c.in-Ok.expired.items c.of.result c.of.ensures c.in-Ok.ensures.ok

pub returns-in-Err : goal.returns-in-Err
returns-in-Err c =
    subst (λ (cause : EventRefusal). CallReturns (Advance c.args.moment) (Err record { cause = cause; expired = c.in-Err.stopped.expired }) c.args.journal.now
    c.advance.new.self) (sym c.of_store.ensures)
    (advance_stopped c.args.journal.now c.advance.new.self c.args.moment c.in-Err.stopped.expired c.in-Err.stopped.cause c.in-Err.ensures.refused)
