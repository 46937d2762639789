use Rattle.std.proofs.Common.{◌∙◌, ap}
use Rattle.stm_txn.specs.Store.{StoreView}
use Rattle.stm_audit.proofs.StoreLemmas.{are_distinct, taken, no_revision, left_as_it_was}
use Rattle.stm_audit.proofs.store_after.make.Goals as goal

pub write-requires : goal.write-requires
write-requires c =
    are_distinct c.args.writes.now c.into_changes.result.items (c.into_changes.ensures ∙ c.in_ok-latest.ensures)

pub returns-in-Ok-clause-revision : goal.returns-in-Ok-clause-revision
returns-in-Ok-clause-revision c =
    (taken c.args.store.now.standing c.write.new.self.standing c.args.writes.now c.into_changes.result.items c.in-Ok.revision
    (c.into_changes.ensures ∙ c.in_ok-latest.ensures) c.in-Ok.ensures.step).0

pub returns-in-Ok-clause-store : goal.returns-in-Ok-clause-store
returns-in-Ok-clause-store c =
    (taken c.args.store.now.standing c.write.new.self.standing c.args.writes.now c.into_changes.result.items c.in-Ok.revision
    (c.into_changes.ensures ∙ c.in_ok-latest.ensures) c.in-Ok.ensures.step).1

pub returns-in-Err-clause-revision : goal.returns-in-Err-clause-revision
returns-in-Err-clause-revision c =
    no_revision c.refused.result c.args.store.now.standing c.args.writes.now c.into_changes.result.items c.in-Err.cause
    (c.into_changes.ensures ∙ c.in_ok-latest.ensures) c.in-Err.ensures.step c.refused.ensures.none c.refused.ensures.memory

pub returns-in-Err-clause-store : goal.returns-in-Err-clause-store
returns-in-Err-clause-store c =
    left_as_it_was c.refused.result c.args.store.now.standing c.write.new.self.standing c.args.writes.now c.into_changes.result.items c.in-Err.cause
    (c.into_changes.ensures ∙ c.in_ok-latest.ensures) c.in-Err.ensures.step
    (ap (λ (v : StoreView). v.standing) c.in-Err.ensures.err) c.refused.ensures.memory
