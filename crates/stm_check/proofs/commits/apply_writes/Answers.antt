use Rattle.std.proofs.Common.{◌∙◌, List, ap}
use Rattle.stm_history.specs.declared.change.Change.{Change}
use Rattle.stm_program.specs.Writes.{latest_writes}
use Rattle.stm_txn.specs.Store.{StoreView}
use Rattle.stm_check.proofs.CommitLemmas.{writes_distinct, taken_revision, taken_store, refused_revision, refused_store}
use Rattle.stm_check.proofs.commits.apply_writes.Goals as goal

pub write-requires : goal.write-requires
write-requires c =
    writes_distinct c.args.run.now c.into_changes.result.items
    (c.into_changes.ensures ∙ c.in_ok-latest.ensures ∙ ap (λ (ws : List Change). latest_writes ws) c.as_slice.ensures)

pub returns-in-Ok-clause-revision : goal.returns-in-Ok-clause-revision
returns-in-Ok-clause-revision c =
    taken_revision c.args.store.now.standing c.write.new.self.standing c.args.run.now c.into_changes.result.items c.in-Ok.revision
    (c.into_changes.ensures ∙ c.in_ok-latest.ensures ∙ ap (λ (ws : List Change). latest_writes ws) c.as_slice.ensures)
    c.in-Ok.ensures.step

pub returns-in-Ok-clause-store : goal.returns-in-Ok-clause-store
returns-in-Ok-clause-store c =
    taken_store c.args.store.now.standing c.write.new.self.standing c.args.run.now c.into_changes.result.items c.in-Ok.revision
    (c.into_changes.ensures ∙ c.in_ok-latest.ensures ∙ ap (λ (ws : List Change). latest_writes ws) c.as_slice.ensures)
    c.in-Ok.ensures.step

pub returns-in-Err-clause-revision : goal.returns-in-Err-clause-revision
returns-in-Err-clause-revision c =
    refused_revision c.refused_writes.result c.args.store.now.standing c.args.run.now c.into_changes.result.items c.in-Err.cause
    (c.into_changes.ensures ∙ c.in_ok-latest.ensures ∙ ap (λ (ws : List Change). latest_writes ws) c.as_slice.ensures)
    c.in-Err.ensures.step c.refused_writes.ensures.none c.refused_writes.ensures.memory

pub returns-in-Err-clause-store : goal.returns-in-Err-clause-store
returns-in-Err-clause-store c =
    refused_store c.refused_writes.result c.args.store.now.standing c.write.new.self.standing c.args.run.now c.into_changes.result.items c.in-Err.cause
    (c.into_changes.ensures ∙ c.in_ok-latest.ensures ∙ ap (λ (ws : List Change). latest_writes ws) c.as_slice.ensures)
    c.in-Err.ensures.step (ap (λ (v : StoreView). v.standing) c.in-Err.ensures.err) c.refused_writes.ensures.memory
