use Rattle.std.proofs.Common.{◌≡◌, ◌∙◌, ◌<◌, ◌≤◌, ℕ, Err, ap, sym, subst, arith}
use Rattle.stm_history.specs.History.{now}
use Rattle.stm_txn.specs.Standing.{Standing}
use Rattle.stm_journal.specs.Fetched.{fetch_of}
use Rattle.stm_journal.specs.declared.refusal.FetchRefusal.TheVariants.{Behind}
use Rattle.stm_journal.specs.Fetching.{fetched, FetchReturns}
use Rattle.stm_journal.proofs.FetchLemmas.{read_revision}
use Rattle.stm_journal.proofs.BehindLemmas.{reports_behind, reports_read, reports_read_refused}
use Rattle.stm_journal.proofs.entered_calls.fetch_one.Goals as goal

-- the store is behind what was seen
pub returns-then-counter-seen-clause-answer : goal.returns-then-counter-seen-clause-answer
returns-then-counter-seen-clause-answer c =
    let s : Standing = c.args.store.now.standing in
    let is : c.revision-counter.result ≡ now s.history = c.revision-counter.ensures.value ∙ ap now c.keys.ensures.history in
    let below : now s.history < c.args.seen = omega (arith, is, c.if-counter-seen.true) in
    subst (λ (n : ℕ). FetchReturns (fetched s c.args.seen (fetch_of c.args.key.now c.args.at)) (Err (Behind c.args.seen n))) (sym is)
    (reports_behind s c.args.seen (fetch_of c.args.key.now c.args.at) below)

pub returns-in-Ok-clause-answer : goal.returns-in-Ok-clause-answer
returns-in-Ok-clause-answer c =
    let s : Standing = c.args.store.now.standing in
    let is : c.revision-counter.result ≡ now s.history = c.revision-counter.ensures.value ∙ ap now c.keys.ensures.history in
    let reached : c.args.seen ≤ now s.history = omega (arith, is, c.if-counter-seen.false) in
    reports_read s c.args.seen c.args.key.now c.args.at c.in-Ok.answer c.limit-takes_one.ensures.some reached c.in-Ok.ensures.reported

pub returns-in-Ok-clause-seen : goal.returns-in-Ok-clause-seen
returns-in-Ok-clause-seen c =
    let s : Standing = c.args.store.now.standing in
    let is : c.revision-counter.result ≡ now s.history = c.revision-counter.ensures.value ∙ ap now c.keys.ensures.history in
    omega (arith, is, c.if-counter-seen.false, read_revision s c.args.key.now c.args.at c.in-Ok.answer c.in-Ok.ensures.reported)

pub returns-in-Err-clause-answer : goal.returns-in-Err-clause-answer
returns-in-Err-clause-answer c =
    let s : Standing = c.args.store.now.standing in
    let is : c.revision-counter.result ≡ now s.history = c.revision-counter.ensures.value ∙ ap now c.keys.ensures.history in
    let reached : c.args.seen ≤ now s.history = omega (arith, is, c.if-counter-seen.false) in
    reports_read_refused s c.args.seen c.args.key.now c.args.at c.in-Err.cause c.limit-takes_one.ensures.some reached c.in-Err.ensures.reported
