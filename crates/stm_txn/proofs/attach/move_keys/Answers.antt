use Rattle.std.proofs.Common.{◌∙◌, sym, ap, subst, map, List}
use Rattle.stm_history.specs.declared.change.Change.{Change}
use Rattle.stm_keys.specs.Events.{change_of_event}
use Rattle.stm_leases.specs.Leases.{lease_of}
use Rattle.stm_leases.specs.Live.{Live}
use Rattle.stm_txn.specs.Leasing.{attached_of, AttachedToLive}
use Rattle.stm_txn.specs.Moves.{attached_all, CanAttach}
use Rattle.stm_txn.proofs.Moving.{can_attach, moved, free_between}
use Rattle.stm_txn.proofs.attach.move_keys.Goals as goal

pub attach_all-requires-clause-can : goal.attach_all-requires-clause-can
attach_all-requires-clause-can c =
    let cs : List Change = map change_of_event c.args.events.now in
    subst (CanAttach (lease_of c.detach_all.new.leases) c.detach_all.new.leases.live) (sym c.requires.attaches)
    (can_attach (lease_of c.detach_all.new.leases) c.detach_all.new.leases.live cs c.requires.distinct
    (subst (λ (live : Live). AttachedToLive live (attached_of cs)) (sym c.detach_all.ensures.live)
    (subst (AttachedToLive c.args.leases.now.live) c.requires.attaches c.requires.live))
    (λ key d is. free_between cs key (lease_of c.args.leases.now key) (lease_of c.detach_all.new.leases key) d (c.detach_all.ensures.keys key) is))

pub returns-clause-keys : goal.returns-clause-keys
returns-clause-keys c = λ key.
    moved (map change_of_event c.args.events.now) key (lease_of c.args.leases.now key) (lease_of c.detach_all.new.leases key)
    (lease_of c.attach_all.new.leases key)
    c.requires.distinct (c.detach_all.ensures.keys key)
    (c.attach_all.ensures.keys key ∙ ap (λ attaches. attached_all attaches key (lease_of c.detach_all.new.leases key)) c.requires.attaches)
