use Rattle.std.proofs.Common.{◌∙◌, ap}
use Rattle.std.specs.Prelude.{string_bytes}
use Rattle.stm_leases.specs.Leases.{Leases, lease_of}
use Rattle.stm_txn.specs.Moves.{attached_one}
use Rattle.stm_txn.proofs.Moving.{get_attached}
use Rattle.stm_txn.proofs.attach.attach_one.Goals as goal

pub returns-clause-keys : goal.returns-clause-keys
returns-clause-keys c = λ key.
    ap (λ (s : Leases). lease_of s key) c.attach.ensures
    ∙ get_attached c.args.leases.now.attached (string_bytes c.added.inside.key) c.added.inside.lease key
    ∙ ap (λ h. attached_one h key (lease_of c.args.leases.now key)) c.added.view_is
