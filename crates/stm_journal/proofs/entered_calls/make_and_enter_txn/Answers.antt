use Rattle.std.proofs.Common.{ap, refl}
use Rattle.stm_txn.specs.Standing.{Standing}
use Rattle.stm_txn.specs.Store.{StoreView}
use Rattle.stm_journal.specs.JournalState.{journal_of}
use Rattle.stm_journal.proofs.CallLemmas.{same_journal, reports_wanted, reports_refused}
use Rattle.stm_journal.proofs.entered_calls.make_and_enter_txn.Goals as goal

pub returns-in_default : goal.returns-in_default
returns-in_default c = λ start.
    let s : Standing = c.args.store.now.standing in
    reports_wanted (journal_of s c.args.entries.now.items start) (journal_of s c.prepare_txn.new.entries.items start) c.args.txn.now c.txn_refusal.result
    c.cause_or_out_of_memory.result c.txn_refusal.ensures c.cause_or_out_of_memory.ensures
    (same_journal s s c.args.entries.now.items c.prepare_txn.new.entries.items start refl c.prepare_txn.ensures.same)

pub returns-in-Err : goal.returns-in-Err
returns-in-Err c = λ start.
    let s : Standing = c.args.store.now.standing in
    reports_refused (journal_of s c.args.entries.now.items start) (journal_of c.txn.new.self.standing c.prepare_txn.new.entries.items start) c.args.txn.now
    c.in-Err.cause c.in-Err.ensures.step
    (same_journal s c.txn.new.self.standing c.args.entries.now.items c.prepare_txn.new.entries.items start
    (ap (λ (v : StoreView). v.standing) c.in-Err.ensures.err) c.prepare_txn.ensures.same)
