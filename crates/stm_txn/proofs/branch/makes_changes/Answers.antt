use Rattle.std.proofs.Common.{◌∙◌, sym, ap, drop, suc, [], ◌∷◌}
use Rattle.std.proofs.Math.Seq.{drop-cons}
use Rattle.stm_outcome.specs.Branches.{has_changes}
use Rattle.stm_outcome.specs.LookUps.{changes_copied}
use Rattle.stm_outcome.proofs.Branching.{changed_at_first}
use Rattle.stm_txn.proofs.branch.makes_changes.Goals as goal

pub returns-then-makes_change : goal.returns-then-makes_change
returns-then-makes_change c =
    let h = c.args.keys.now.history in
    let i = c.loop-op.op-index in
    let ops = c.args.ops.now in
    let op = c.op-item.result in
    sym (
    ap has_changes (sym c.loop-op.invariant ∙ ap (changes_copied h [])
    (drop-cons ops i op c.loop-op-test.true ∙ ap (λ o. o ∷ drop (suc i) ops) (sym c.op-item.is)))
    ∙ changed_at_first h op (drop (suc i) ops) (sym c.makes_change.ensures ∙ c.if-makes_change.true))
