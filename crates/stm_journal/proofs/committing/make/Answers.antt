use Rattle.std.proofs.Common.{◌≡◌, ◌∙◌, List, ◌++◌, ◌∷◌, [], length, sym, ap, subst}
use Rattle.stm_history.specs.History.{HasDistinctKeys}
use Rattle.stm_txn.specs.Standing.{Standing}
use Rattle.stm_txn.specs.Store.{StoreView}
use Rattle.stm_entries.specs.declared.entry.Entry.{Entry}
use Rattle.stm_journal.specs.declared.commit_entry.Kept.{Kept}
use Rattle.stm_journal.specs.CommitEntry.{entry_of_kept}
use Rattle.stm_journal.specs.JournalState.{journal_of}
use Rattle.stm_journal.specs.Verdicts.{entry_of}
use Rattle.stm_journal.proofs.CallLemmas.{same_journal}
use Rattle.stm_journal.proofs.CauseLemmas.{reports_made, reports_not_made, changes_of_ready}
use Rattle.stm_journal.proofs.committing.make.Goals as goal

-- its changes are of distinct keys
pub write-requires : goal.write-requires
write-requires c = subst (λ cs. HasDistinctKeys cs) (sym c.parts_of-kept.ensures.changes) (changes_of_ready c.args.ready c.requires.run)

pub returns-in-Ok-clause-verdict : goal.returns-in-Ok-clause-verdict
returns-in-Ok-clause-verdict c = λ start.
    let s : Standing = c.args.store.now.standing in
    let es : List Entry = c.args.entries.now.items in
    let next : Standing = c.write.new.self.standing in
    let entered : c.push_reserved.new.self.items ≡ es ++ entry_of c.args.ready c.in-Ok.revision ∷ [] =
    c.push_reserved.ensures.items ∙ ap (λ (l : List Entry). l ++ c.into_entry.result ∷ []) c.reserve.ensures.items
    ∙ ap (λ (e : Entry). es ++ e ∷ []) (c.into_entry.ensures ∙ ap (λ (kept : Kept). entry_of_kept kept c.in-Ok.revision) c.parts_of-kept.ensures.kept) in
    reports_made (journal_of s es start) (journal_of next c.push_reserved.new.self.items start) c.args.ready c.parts_of-kept.result.1.items next
    c.len-index.result c.in-Ok.revision c.requires.clear c.requires.run c.parts_of-kept.ensures.changes c.in-Ok.ensures.step
    (c.len-index.ensures ∙ c.reserve.new.self.ok.0 ∙ ap (λ (l : List Entry). length l) c.reserve.ensures.items)
    (ap (λ (l : List Entry). journal_of next l start) entered)

pub returns-in-Err-clause-verdict : goal.returns-in-Err-clause-verdict
returns-in-Err-clause-verdict c = λ start.
    let s : Standing = c.args.store.now.standing in
    let es : List Entry = c.args.entries.now.items in
    let unchanged : c.write.new.self.standing ≡ s = ap (λ (v : StoreView). v.standing) c.in-Err.ensures.err in
    reports_not_made (journal_of s es start) (journal_of c.write.new.self.standing c.reserve.new.self.items start) c.args.ready
    c.parts_of-kept.result.1.items c.in-Err.cause c.requires.clear c.requires.run c.parts_of-kept.ensures.changes c.in-Err.ensures.step
    (same_journal s c.write.new.self.standing es c.reserve.new.self.items start unchanged c.reserve.ensures.items)
