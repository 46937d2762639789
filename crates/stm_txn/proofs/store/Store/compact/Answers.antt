use Rattle.std.proofs.Common.{◌≡◌, ◌∙◌, ◌<◌, ◌≤◌, Err, ap, arith, subst}
use Rattle.stm_history.specs.History.{now}
use Rattle.stm_keys.specs.Keys.{Contents}
use Rattle.stm_keys.specs.declared.refusal.ReadRefusal.TheVariants.{FutureRevision, Compacted}
use Rattle.stm_outcome.specs.declared.refusal.Refusal.TheVariants.{FutureRevision as FutureCause, Compacted as CompactedCause}
use Rattle.stm_txn.specs.Standing.{Standing, compacted}
use Rattle.stm_txn.specs.Store.{StoreView}
use Rattle.stm_txn.proofs.Compacting.{above_floor, has_come, done, compacted_reported, compacted_parts, refused_compacted, refused_future, compacted_refused}
use Rattle.stm_txn.proofs.Copied.{store_of}
use Rattle.stm_txn.proofs.store.Store.compact.Goals as goal

pub compacted-requires : goal.compacted-requires
compacted-requires c =
    let keys : Contents = c.self.inside.keys in
    let above : keys.floor < c.args.revision = above_floor _ Compacted keys.floor c.args.revision c.in-Ok.ensures.compacted in
    let reached : c.args.revision ≤ now keys.history = has_come _ FutureRevision (now keys.history) c.args.revision c.in-Ok.ensures.future in
    omega (arith, c.self.invariant.3, above)

pub invariant_of-self : goal.invariant_of-self
invariant_of-self c =
    let keys : Contents = c.self.inside.keys in
    let above : keys.floor < c.args.revision = above_floor _ Compacted keys.floor c.args.revision c.in-Ok.ensures.compacted in
    let reached : c.args.revision ≤ now keys.history = has_come _ FutureRevision (now keys.history) c.args.revision c.in-Ok.ensures.future in
    compacted_parts keys c.compact.new.self c.self.inside.leases c.self.inside.watchers c.compacted.new.self c.args.revision reached c.compacted.ensures.floor
    c.self.invariant c.in-Ok.ensures.ok (c.compacted.ensures.cut c.self.inside.keys.history c.self.invariant.2 reached)

pub returns-in-Ok-clause-step : goal.returns-in-Ok-clause-step
returns-in-Ok-clause-step c =
    let keys : Contents = c.self.inside.keys in
    let above : keys.floor < c.args.revision = above_floor _ Compacted keys.floor c.args.revision c.in-Ok.ensures.compacted in
    let reached : c.args.revision ≤ now keys.history = has_come _ FutureRevision (now keys.history) c.args.revision c.in-Ok.ensures.future in
    let next : Standing = (store_of c.self.inside.limit c.compact.new.self c.self.inside.leases c.self.inside.moment c.compacted.new.self).standing in
    subst (λ (v : StoreView). compacted v.standing c.args.revision ≡ done next) c.self.view_is
    (compacted_reported c.self.inside.limit keys c.compact.new.self c.self.inside.leases c.self.inside.moment c.self.inside.watchers c.compacted.new.self c.args.revision above reached
    (c.compacted.ensures.watchings keys.history c.self.invariant.2) c.in-Ok.ensures.ok)

pub returns-in-Ok-clause-present : goal.returns-in-Ok-clause-present
returns-in-Ok-clause-present c =
    ap (λ (k : Contents). k.present) c.in-Ok.ensures.ok ∙ ap (λ (v : StoreView). v.present) c.self.view_is

pub returns-in-Ok-clause-opened : goal.returns-in-Ok-clause-opened
returns-in-Ok-clause-opened c =
    ap (λ (k : Contents). k.opened) c.in-Ok.ensures.ok ∙ ap (λ (v : StoreView). v.opened) c.self.view_is

pub returns-in-Err-Compacted-clause-step : goal.returns-in-Err-Compacted-clause-step
returns-in-Err-Compacted-clause-step c =
    let s : Standing = c.args.self.now.standing in
    let below : c.args.revision ≤ s.floor =
    subst (λ (v : StoreView). c.args.revision ≤ v.standing.floor) c.self.view_is (c.in-Err-Compacted.ensures.compacted.0 (ap (λ e. Err e) c.in-Err-Compacted.field-0-is)) in
    compacted_refused s c.args.revision CompactedCause (refused_compacted s c.args.revision below)

pub returns-in-Err-FutureRevision-clause-step : goal.returns-in-Err-FutureRevision-clause-step
returns-in-Err-FutureRevision-clause-step c =
    let s : Standing = c.args.self.now.standing in
    let above : now s.history < c.args.revision =
    subst (λ (v : StoreView). now v.standing.history < c.args.revision) c.self.view_is (c.in-Err-FutureRevision.ensures.future.0 (ap (λ e. Err e) c.in-Err-FutureRevision.field-0-is)) in
    let floor : s.floor ≤ now s.history = subst (λ (v : StoreView). v.standing.floor ≤ now v.standing.history) c.self.view_is c.self.invariant.4 in
    compacted_refused s c.args.revision FutureCause (refused_future s c.args.revision floor above)
