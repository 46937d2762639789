use Rattle.std.proofs.Common.{◌≡◌, ◌<◌, ◌≤◌, ◌∙◌, List, ◌++◌, length, None, refl, sym, ap, subst, arith}
use Rattle.std.specs.FinMap as finmap
use Rattle.stm_leases.proofs.Timed.{on_ok}
use Rattle.stm_outcome.specs.declared.advance.Expired.{Expired}
use Rattle.stm_outcome.specs.declared.advance.AdvanceRefused.{AdvanceRefused}
use Rattle.stm_txn.specs.Standing.{Standing}
use Rattle.stm_entries.specs.declared.entry.Entry.{Entry}
use Rattle.stm_journal.specs.JournalState.{JournalState, journal_of}
use Rattle.stm_entries.specs.Entered.{expiries}
use Rattle.stm_journal.specs.Entering.{HasStopped}
use Rattle.stm_journal.proofs.CallLemmas.{same_journal, reports_back, reports_no_room, reports_stopped, taken_within, cut_within}
use Rattle.stm_journal.proofs.entered_calls.advance.Goals as goal

pub enter_expiries-requires : goal.enter_expiries-requires
enter_expiries-requires c =
    let s : Standing = c.args.store.now.standing in
    let room = on_ok c.reserve.result c.reserve.ensures.ok (sym c.is_err.ensures.value ∙ c.if-is_err.false) in
    let few : length c.as_slice.result.now ≤ finmap.len s.live =
    subst (λ (l : List Expired). length l ≤ finmap.len s.live) (sym c.as_slice.ensures.value)
    (taken_within s c.advance.new.self.standing c.args.moment c.in-Ok.expired.items None c.in-Ok.ensures.ok) in
    omega (arith, room, few, c.lease_count.ensures)

pub enter_expiries-requires-in-Err : goal.enter_expiries-requires-in-Err
enter_expiries-requires-in-Err c =
    let s : Standing = c.args.store.now.standing in
    let room = on_ok c.reserve.result c.reserve.ensures.ok (sym c.is_err.ensures.value ∙ c.if-is_err.false) in
    let few : length c.as_slice-in-Err.result.now ≤ finmap.len s.live =
    subst (λ (l : List Expired). length l ≤ finmap.len s.live) (sym c.as_slice-in-Err.ensures)
    (cut_within s c.advance.new.self.standing c.args.moment c.in-Err.stopped.expired c.in-Err.stopped.cause c.in-Err.ensures.refused) in
    omega (arith, room, few, c.lease_count.ensures)

pub returns-then-moment-clause-refused : goal.returns-then-moment-clause-refused
returns-then-moment-clause-refused c = λ start.
    let s : Standing = c.args.store.now.standing in
    let below : c.args.moment < s.moment = omega (arith, c.moment.ensures, c.if-moment.true) in
    let journal : JournalState = journal_of s c.args.entries.now.items start in
    subst (λ (r : AdvanceRefused). HasStopped journal c.args.moment r.expired r.cause journal) (sym c.stop.ensures) (reports_back journal c.args.moment below)

pub returns-then-is_err-clause-refused : goal.returns-then-is_err-clause-refused
returns-then-is_err-clause-refused c = λ start.
    let s : Standing = c.args.store.now.standing in
    let forward : s.moment ≤ c.args.moment = omega (arith, c.moment.ensures, c.if-moment.false) in
    let before : JournalState = journal_of s c.args.entries.now.items start in
    let after : JournalState = journal_of s c.reserve.new.self.items start in
    subst (λ (r : AdvanceRefused). HasStopped before c.args.moment r.expired r.cause after) (sym c.stop-then-is_err.ensures)
    (reports_no_room before after c.args.moment forward (same_journal s s c.args.entries.now.items c.reserve.new.self.items start refl c.reserve.ensures.items))

-- the entries that follow those of before
pub returns-in-Ok-clause-ok : goal.returns-in-Ok-clause-ok
returns-in-Ok-clause-ok c = λ start.
    let es : List Entry = c.args.entries.now.items in
    let entered : c.enter_expiries.new.entries.items ≡ es ++ expiries c.in-Ok.expired.items =
    c.enter_expiries.ensures
    ∙ ap (λ (l : List Entry). l ++ expiries c.as_slice.result.now) c.reserve.ensures.items
    ∙ ap (λ (l : List Expired). es ++ expiries l) c.as_slice.ensures.value in
    record { advance = c.in-Ok.ensures.ok; journal = ap (λ (l : List Entry). journal_of c.advance.new.self.standing l start) entered }

pub returns-in-Err-clause-refused : goal.returns-in-Err-clause-refused
returns-in-Err-clause-refused c = λ start.
    let s : Standing = c.args.store.now.standing in
    let es : List Entry = c.args.entries.now.items in
    let forward : s.moment ≤ c.args.moment = omega (arith, c.moment.ensures, c.if-moment.false) in
    let entered : c.enter_expiries-in-Err.new.entries.items ≡ es ++ expiries c.in-Err.stopped.expired =
    c.enter_expiries-in-Err.ensures
    ∙ ap (λ (l : List Entry). l ++ expiries c.as_slice-in-Err.result.now) c.reserve.ensures.items
    ∙ ap (λ (l : List Expired). es ++ expiries l) c.as_slice-in-Err.ensures in
    reports_stopped (journal_of s es start) (journal_of c.advance.new.self.standing c.enter_expiries-in-Err.new.entries.items start) c.args.moment
    c.in-Err.stopped.expired c.in-Err.stopped.cause forward c.in-Err.ensures.refused c.in-Err.ensures.come_so_far
    (ap (λ (l : List Entry). journal_of c.advance.new.self.standing l start) entered)
