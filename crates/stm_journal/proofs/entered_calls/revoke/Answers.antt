use Rattle.std.proofs.Common.{◌≡◌, ◌∙◌, List, ◌++◌, ◌∷◌, [], refl, ap}
use Rattle.stm_txn.specs.Standing.{Standing, revoked}
use Rattle.stm_txn.specs.Store.{StoreView}
use Rattle.stm_entries.specs.declared.entry.Entry.{Entry}
use Rattle.stm_entries.specs.declared.entry.Entry.TheVariants.{Revoke}
use Rattle.stm_journal.specs.JournalState.{journal_of}
use Rattle.stm_journal.proofs.CallLemmas.{same_journal, reports_entered, reports_refused_entry, reports_wanted_entry}
use Rattle.stm_journal.proofs.entered_calls.revoke.Goals as goal

-- room for its entry could not be made
pub returns-then-is_err : goal.returns-then-is_err
returns-then-is_err c = λ start.
    let s : Standing = c.args.store.now.standing in
    let es : List Entry = c.args.entries.now.items in
    reports_wanted_entry (journal_of s es start) (journal_of s c.reserve.new.self.items start) (Revoke c.args.id) (revoked s c.args.id) c.revoke_refusal.result
    c.cause_or_out_of_memory.result c.revoke_refusal.ensures c.cause_or_out_of_memory.ensures
    (same_journal s s es c.reserve.new.self.items start refl c.reserve.ensures.items)

pub returns-in-Ok : goal.returns-in-Ok
returns-in-Ok c = λ start.
    let s : Standing = c.args.store.now.standing in
    let es : List Entry = c.args.entries.now.items in
    let next : Standing = c.revoke.new.self.standing in
    let entered : c.push_reserved.new.self.items ≡ es ++ Revoke c.args.id ∷ [] =
    c.push_reserved.ensures.items ∙ ap (λ (l : List Entry). l ++ Revoke c.args.id ∷ []) c.reserve.ensures.items in
    reports_entered (journal_of s es start) (journal_of next c.push_reserved.new.self.items start) (Revoke c.args.id) (revoked s c.args.id) c.in-Ok.revision next
    c.in-Ok.ensures.step (ap (λ (l : List Entry). journal_of next l start) entered)

-- the store refused it
pub returns-in-Err : goal.returns-in-Err
returns-in-Err c = λ start.
    let s : Standing = c.args.store.now.standing in
    let es : List Entry = c.args.entries.now.items in
    reports_refused_entry (journal_of s es start) (journal_of c.revoke.new.self.standing c.reserve.new.self.items start) (Revoke c.args.id) (revoked s c.args.id) c.in-Err.cause
    (c.in-Err.ensures.step)
    (same_journal s c.revoke.new.self.standing es c.reserve.new.self.items start (ap (λ (v : StoreView). v.standing) c.in-Err.ensures.err) c.reserve.ensures.items)
