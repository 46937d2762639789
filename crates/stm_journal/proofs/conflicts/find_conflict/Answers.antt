use Rattle.std.proofs.Common.{◌≤◌, length, sym, ◌∙◌, ap, subst}
use Rattle.stm_history.specs.History.{key_now}
use Rattle.stm_program.specs.declared.level.Level.{Level}
use Rattle.stm_outcome.specs.Compares.{first_failed}
use Rattle.stm_outcome.specs.Terms.{most_operations}
use Rattle.stm_compile.specs.CommitTxn.{compares_of}
use Rattle.stm_attempt.specs.ReadyRun.{ReadyRun}
use Rattle.stm_journal.specs.Verdicts.{txn_of}
use Rattle.stm_journal.proofs.WholeFaults.{few_compares}
use Rattle.stm_journal.proofs.conflicts.find_conflict.Goals as goal

-- they are not too many
pub find_either-requires : goal.find_either-requires
find_either-requires c =
    few_compares most_operations c.ready.inside.answers c.ready.inside.writes
    (subst (λ (l : Level). length (compares_of l c.ready.inside.answers c.ready.inside.writes) ≤ most_operations) c.in-SerializableSnapshot.is
    (subst (λ (r : ReadyRun). length (txn_of r).compares ≤ most_operations) (sym c.ready.view_is) c.requires))

pub returns-in-SerializableSnapshot : goal.returns-in-SerializableSnapshot
returns-in-SerializableSnapshot c =
    c.find_either.ensures
    ∙ ap (λ (l : Level). first_failed (key_now c.args.keys.now.history) 0 (compares_of l c.ready.inside.answers c.ready.inside.writes))
    (sym c.in-SerializableSnapshot.is)
    ∙ ap (λ (r : ReadyRun). first_failed (key_now c.args.keys.now.history) 0 (txn_of r).compares) c.ready.view_is

pub returns-in-Serializable : goal.returns-in-Serializable
returns-in-Serializable c =
    c.find_changed.ensures
    ∙ ap (λ (l : Level). first_failed (key_now c.args.keys.now.history) 0 (compares_of l c.ready.inside.answers c.ready.inside.writes))
    (sym c.in-Serializable.is)
    ∙ ap (λ (r : ReadyRun). first_failed (key_now c.args.keys.now.history) 0 (txn_of r).compares) c.ready.view_is

pub returns-in-RepeatableReads : goal.returns-in-RepeatableReads
returns-in-RepeatableReads c =
    c.find_changed-in-RepeatableReads.ensures
    ∙ ap (λ (l : Level). first_failed (key_now c.args.keys.now.history) 0 (compares_of l c.ready.inside.answers c.ready.inside.writes))
    (sym c.in-RepeatableReads.is)
    ∙ ap (λ (r : ReadyRun). first_failed (key_now c.args.keys.now.history) 0 (txn_of r).compares) c.ready.view_is

pub returns-in-ReadCommitted : goal.returns-in-ReadCommitted
returns-in-ReadCommitted c =
    ap (λ (l : Level). first_failed (key_now c.args.keys.now.history) 0 (compares_of l c.ready.inside.answers c.ready.inside.writes))
    (sym c.in-ReadCommitted.is)
    ∙ ap (λ (r : ReadyRun). first_failed (key_now c.args.keys.now.history) 0 (txn_of r).compares) c.ready.view_is
