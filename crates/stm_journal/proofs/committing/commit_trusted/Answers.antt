use Rattle.std.proofs.Common.{List, refl}
use Rattle.stm_txn.specs.Standing.{Standing}
use Rattle.stm_entries.specs.declared.entry.Entry.{Entry}
use Rattle.stm_journal.specs.JournalState.{journal_of}
use Rattle.stm_journal.specs.Causes.{IsClear}
use Rattle.stm_journal.proofs.CauseLemmas.{sent_as_taken}
use Rattle.stm_journal.proofs.committing.commit_trusted.Goals as goal

-- nothing turns it down
pub make-requires-clause-clear : goal.make-requires-clause-clear
make-requires-clause-clear c =
    let foreseen = rw c.in-Ok-None.field-0-is at c.in-Ok-None.ensures.verdict in
    foreseen (journal_of c.args.store.now.standing c.args.entries.now.items 0) refl

pub returns-in-Ok-None-clause-verdict : goal.returns-in-Ok-None-clause-verdict
returns-in-Ok-None-clause-verdict c =
    let s : Standing = c.args.store.now.standing in
    let es : List Entry = c.args.entries.now.items in
    let foreseen = rw c.in-Ok-None.field-0-is at c.in-Ok-None.ensures.verdict in
    let clear : IsClear s c.args.ready = foreseen (journal_of s es 0) refl in
    sent_as_taken s c.make.new.store.standing es c.make.new.entries.items c.args.ready c.make.result clear c.make.ensures.verdict

-- it is turned down
pub returns-in-Ok-Some-clause-verdict : goal.returns-in-Ok-Some-clause-verdict
returns-in-Ok-Some-clause-verdict c = λ start.
    let foreseen = rw c.in-Ok-Some.field-0-is at c.in-Ok-Some.ensures.verdict in
    foreseen (journal_of c.args.store.now.standing c.args.entries.now.items start) refl

pub returns-in-Err-clause-verdict : goal.returns-in-Err-clause-verdict
returns-in-Err-clause-verdict c = λ start. c.in-Err.ensures.verdict (journal_of c.args.store.now.standing c.args.entries.now.items start) refl
