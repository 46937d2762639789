use Rattle.std.proofs.Common.{ap, ◌∙◌}
use Rattle.stm_leases.specs.Leases.{Leases}
use Rattle.stm_txn.proofs.RestoredLemmas.{attached_live}
use Rattle.stm_txn.proofs.restored.attach_live.Goals as goal

pub returns-clause-attached : goal.returns-clause-attached
returns-clause-attached c =
    attached_live c.args.leases.now c.reserve_attach.new.self c.attach.new.self _ c.args.key.now c.args.lease
    (ap (λ (s : Leases). s.attached) c.in_ok-reserve_attach.ensures.ok) (ap (λ (s : Leases). s.attached) c.attach.ensures)
    (c.in_ok-name.ensures.ok ∙ c.as_str-2.ensures)
