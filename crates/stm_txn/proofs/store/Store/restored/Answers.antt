use Rattle.std.proofs.Common.{◌≡◌, [], Option, IfSome, sym, ap, subst, ◌∙◌}
use Rattle.stm_history.specs.Opening.{States}
use Rattle.stm_history.specs.History.{History}
use Rattle.stm_leases.specs.Leases.{Leases, lease_of}
use Rattle.stm_outcome.specs.Numbers.{LeasesFit}
use Rattle.stm_txn.specs.Leasing.{AttachedAsStored}
use Rattle.stm_txn.specs.declared.restored.Checkpoint.{Checkpoint}
use Rattle.stm_txn.specs.Restored.{restored}
use Rattle.stm_txn.proofs.store.Store.restored.Goals as goal

pub with_parts-requires-clause-attached : goal.with_parts-requires-clause-attached
with_parts-requires-clause-attached c =
    let k : Checkpoint = c.args.checkpoint.now in
    let is : c.in_ok-keys.keys.history ≡ (restored k).history =
    c.in_ok-keys.ensures.history
    ∙ ap (λ (s : States). let h : History = record { opening = record { number = k.revision; states = s }; revisions = [] } in h) c.as_slice.ensures in
    subst (λ (h : History). AttachedAsStored (lease_of c.in-Some.leases) h) (sym is)
    (subst (λ (o : Option Leases). IfSome o (λ leases. AttachedAsStored (lease_of leases) (restored k).history)) c.in-Some.is c.in_ok-leases.ensures.attached)

pub with_parts-requires-clause-fits : goal.with_parts-requires-clause-fits
with_parts-requires-clause-fits c =
    let k : Checkpoint = c.args.checkpoint.now in
    let is : c.in_ok-keys.keys.history ≡ (restored k).history =
    c.in_ok-keys.ensures.history
    ∙ ap (λ (s : States). let h : History = record { opening = record { number = k.revision; states = s }; revisions = [] } in h) c.as_slice.ensures in
    subst LeasesFit (sym is)
    (subst (λ (o : Option Leases). IfSome o (λ leases. LeasesFit (restored k).history)) c.in-Some.is c.in_ok-leases.ensures.fits)
