use Rattle.std.proofs.Common.{◌≡◌, ◌∙◌, ℕ, ◌<◌, ◌≤◌, Err, sym, ap, subst, arith}
use Rattle.stm_history.specs.History.{now}
use Rattle.stm_txn.specs.Standing.{Standing}
use Rattle.stm_txn.specs.Store.{StoreView}
use Rattle.stm_journal.specs.declared.refusal.FetchRefusal.TheVariants.{Behind}
use Rattle.stm_journal.specs.Fetching.{fetched, FetchReturns}
use Rattle.stm_journal.proofs.BehindLemmas.{store_unchanged, revision_unchanged, reports_behind, reports_answer, reports_refused}
use Rattle.stm_journal.proofs.entered_calls.fetch.Goals as goal

-- the store is behind what was seen
pub returns-then-now-seen-clause-answer : goal.returns-then-now-seen-clause-answer
returns-then-now-seen-clause-answer c =
    let s : Standing = c.args.store.now.standing in
    let is : c.revision-now.result ≡ now s.history = c.revision-now.ensures.value ∙ ap now c.keys.ensures.history in
    let below : now s.history < c.args.seen = omega (arith, is, c.if-now-seen.true) in
    subst (λ (n : ℕ). FetchReturns (fetched s c.args.seen c.args.txn.now) (Err (Behind c.args.seen n))) (sym is) (reports_behind s c.args.seen c.args.txn.now below)

pub returns-in-Ok-clause-answer : goal.returns-in-Ok-clause-answer
returns-in-Ok-clause-answer c =
    let s : Standing = c.args.store.now.standing in
    let is : c.revision-now.result ≡ now s.history = c.revision-now.ensures.value ∙ ap now c.keys.ensures.history in
    let reached : c.args.seen ≤ now s.history = omega (arith, is, c.if-now-seen.false) in
    reports_answer s c.txn.new.self.standing c.args.seen c.args.txn.now c.in-Ok.answer reached c.in-Ok.ensures.step

pub returns-in-Ok-clause-seen : goal.returns-in-Ok-clause-seen
returns-in-Ok-clause-seen c =
    let s : Standing = c.args.store.now.standing in
    let is : c.revision-now.result ≡ now s.history = c.revision-now.ensures.value ∙ ap now c.keys.ensures.history in
    omega (
      arith,
      is,
      c.if-now-seen.false,
      revision_unchanged s c.txn.new.self.standing c.args.txn.now c.in-Ok.answer c.requires c.in-Ok.ensures.step,
    )

pub returns-in-Ok-clause-same : goal.returns-in-Ok-clause-same
returns-in-Ok-clause-same c =
    store_unchanged c.args.store.now.standing c.txn.new.self.standing c.args.txn.now c.in-Ok.answer c.requires c.in-Ok.ensures.step

pub returns-in-Err-clause-answer : goal.returns-in-Err-clause-answer
returns-in-Err-clause-answer c =
    let s : Standing = c.args.store.now.standing in
    let is : c.revision-now.result ≡ now s.history = c.revision-now.ensures.value ∙ ap now c.keys.ensures.history in
    let reached : c.args.seen ≤ now s.history = omega (arith, is, c.if-now-seen.false) in
    reports_refused s c.args.seen c.args.txn.now c.in-Err.cause reached c.in-Err.ensures.step

pub returns-in-Err-clause-same : goal.returns-in-Err-clause-same
returns-in-Err-clause-same c = ap (λ (v : StoreView). v.standing) c.in-Err.ensures.err
