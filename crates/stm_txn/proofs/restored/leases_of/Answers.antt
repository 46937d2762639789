use Rattle.std.proofs.Common.{ap, ◌∙◌}
use Rattle.std.specs.FinMap.{find, is_sorted}
use Rattle.std.specs.Ordering.{nat_cmp}
use Rattle.std.specs.Cmp.Lexicographic.{slice_cmp}
use Rattle.stm_history.specs.Opening.{States}
use Rattle.stm_leases.specs.Leases.{lease_of}
use Rattle.stm_txn.specs.Leasing.{attaching}
use Rattle.stm_txn.proofs.RestoredLemmas.{states_ascend, attached_as_stored, leases_fit}
use Rattle.stm_txn.proofs.restored.leases_of.Goals as goal

pub attach_all-requires-clause-sorted : goal.attach_all-requires-clause-sorted
attach_all-requires-clause-sorted c = ap (is_sorted (slice_cmp nat_cmp)) c.as_slice-2.ensures ∙ states_ascend c.args.checkpoint.now c.requires

pub returns-clause-attached : goal.returns-clause-attached
returns-clause-attached c =
    attached_as_stored c.args.checkpoint.now (lease_of c.attach_all.new.leases) c.requires
    (λ key. c.in_ok-attach_all.ensures.attached c.if-not-branch-2.false key
    ∙ ap (λ (s : States). attaching (find (slice_cmp nat_cmp) key s)) c.as_slice-2.ensures)

pub returns-clause-fits : goal.returns-clause-fits
returns-clause-fits c =
    leases_fit c.args.checkpoint.now c.attach_all.new.leases c.is_live-live.ensures.attach_on_live c.is_live-live.ensures.in_range
    (attached_as_stored c.args.checkpoint.now (lease_of c.attach_all.new.leases) c.requires
    (λ key. c.in_ok-attach_all.ensures.attached c.if-not-branch-2.false key
    ∙ ap (λ (s : States). attaching (find (slice_cmp nat_cmp) key s)) c.as_slice-2.ensures))
