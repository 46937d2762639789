use Rattle.std.proofs.Common.{◌≡◌, ◌∙◌, ◌<◌, ◌≤◌, Err, ap, sym, arith}
use Rattle.stm_history.specs.History.{History, now}
use Rattle.stm_keys.specs.Keys.{key_read}
use Rattle.stm_keys.specs.declared.refusal.ReadRefusal.{ReadRefusal}
use Rattle.stm_keys.specs.declared.refusal.ReadRefusal.TheVariants.{FutureRevision, Compacted}
use Rattle.stm_outcome.specs.declared.refusal.Refusal.{Refusal}
use Rattle.stm_txn.specs.Standing.{Standing}
use Rattle.stm_txn.proofs.Compacting.{has_come, not_so}
use Rattle.stm_journal.proofs.FetchLemmas.{reported_read, reported_refused}
use Rattle.stm_journal.proofs.fetching.find_named.Goals as goal

-- what the keys have is what the read shows
pub returns-in-Ok-clause-found : goal.returns-in-Ok-clause-found
returns-in-Ok-clause-found c =
    let s : Standing = c.args.store.now.standing in
    let same : c.keys-keys.result.now.history ≡ s.history = c.keys-keys.ensures.history in
    let come : c.args.at ≤ now c.keys-keys.result.now.history =
    has_come _ FutureRevision (now c.keys-keys.result.now.history) c.args.at c.in-Ok.ensures.future in
    let reached : c.args.at ≤ now s.history = omega (arith, come, ap now same) in
    reported_read s c.args.key.now c.args.at _ c.requires reached
    (λ under. not_so _ Compacted c.in-Ok.ensures.compacted (under.0, omega (arith, under.1, c.keys-keys.ensures.floor)))
    (c.in-Ok.ensures.found ∙ ap (λ (h : History). key_read h c.args.key.now c.args.at) same)

-- the refusal of the keys is the store's
pub returns-in-Err-clause-refused : goal.returns-in-Err-clause-refused
returns-in-Err-clause-refused c =
    let s : Standing = c.args.store.now.standing in
    let same : c.keys-keys.result.now.history ≡ s.history = c.keys-keys.ensures.history in
    let floor : s.floor ≤ now s.history =
    omega (arith, c.revision-counter.ensures.floor, c.revision-counter.ensures.value, c.keys-keys.ensures.floor, ap now same) in
    reported_refused s c.args.key.now c.args.at c.in-Err.refusal c.requires floor
    (λ is. let above : now c.keys-keys.result.now.history < c.args.at = c.in-Err.ensures.future.0 (ap (λ (r : ReadRefusal). Err r) is) in
    omega (arith, above, ap now same))
    (λ is. let under = c.in-Err.ensures.compacted.0 (ap (λ (r : ReadRefusal). Err r) is) in
    (under.0, omega (arith, under.1, c.keys-keys.ensures.floor)))
    ∙ ap (λ (r : Refusal). Err r) (sym c.cause_of.ensures)
