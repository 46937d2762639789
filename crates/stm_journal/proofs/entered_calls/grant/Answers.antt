use Rattle.std.proofs.Common.{◌≡◌, ◌∙◌, ℕ, List, ◌++◌, ◌∷◌, [], refl, ap}
use Rattle.stm_txn.specs.Standing.{Standing, granted}
use Rattle.stm_txn.specs.Store.{StoreView}
use Rattle.stm_entries.specs.declared.entry.Entry.{Entry}
use Rattle.stm_entries.specs.declared.entry.Entry.TheVariants.{Grant}
use Rattle.stm_journal.specs.JournalState.{journal_of}
use Rattle.stm_journal.proofs.CallLemmas.{same_journal, reports_entered, reports_refused_entry, reports_wanted_entry}
use Rattle.stm_journal.proofs.entered_calls.grant.Goals as goal

-- room for its entry could not be made
pub returns-then-is_err : goal.returns-then-is_err
returns-then-is_err c = λ start.
    let s : Standing = c.args.store.now.standing in
    let es : List Entry = c.args.entries.now.items in
    reports_wanted_entry (journal_of s es start) (journal_of s c.reserve.new.self.items start) (Grant c.args.id c.args.ttl s.moment) (granted s c.args.id c.args.ttl) c.grant_refusal.result
    c.cause_or_out_of_memory.result c.grant_refusal.ensures c.cause_or_out_of_memory.ensures
    (same_journal s s es c.reserve.new.self.items start refl c.reserve.ensures.items)

pub returns-in-Ok : goal.returns-in-Ok
returns-in-Ok c = λ start.
    let s : Standing = c.args.store.now.standing in
    let es : List Entry = c.args.entries.now.items in
    let next : Standing = c.grant.new.self.standing in
    let entered : c.push_reserved.new.self.items ≡ es ++ Grant c.args.id c.args.ttl s.moment ∷ [] =
    c.push_reserved.ensures.items ∙ ap (λ (l : List Entry). l ++ Grant c.args.id c.args.ttl c.moment-at.result ∷ []) c.reserve.ensures.items
    ∙ ap (λ (n : ℕ). es ++ Grant c.args.id c.args.ttl n ∷ []) c.moment-at.ensures in
    reports_entered (journal_of s es start) (journal_of next c.push_reserved.new.self.items start) (Grant c.args.id c.args.ttl s.moment) (granted s c.args.id c.args.ttl) tt next
    c.in-Ok.ensures.step (ap (λ (l : List Entry). journal_of next l start) entered)

-- the store refused it
pub returns-in-Err : goal.returns-in-Err
returns-in-Err c = λ start.
    let s : Standing = c.args.store.now.standing in
    let es : List Entry = c.args.entries.now.items in
    reports_refused_entry (journal_of s es start) (journal_of c.grant.new.self.standing c.reserve.new.self.items start)
    (Grant c.args.id c.args.ttl s.moment) (granted s c.args.id c.args.ttl) c.in-Err.cause
    (c.in-Err.ensures.step)
    (same_journal s c.grant.new.self.standing es c.reserve.new.self.items start (ap (λ (v : StoreView). v.standing) c.in-Err.ensures.err) c.reserve.ensures.items)
