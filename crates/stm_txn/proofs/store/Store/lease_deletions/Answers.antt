use Rattle.std.proofs.Common.{◌∙◌, ap, map}
use Rattle.std.specs.Prelude.{string_bytes}
use Rattle.stm_history.specs.declared.change.Change.TheVariants.{Del}
use Rattle.stm_txn.specs.LeaseKeys.{deletions_of}
use Rattle.stm_txn.specs.Store.{StoreView}
use Rattle.stm_txn.proofs.Naming.{is_the_list}
use Rattle.stm_txn.proofs.store.Store.lease_deletions.Goals as goal

pub returns-in_ok-deletions-in-Ok-clause-ok : goal.returns-in_ok-deletions-in-Ok-clause-ok
returns-in_ok-deletions-in-Ok-clause-ok c =
    c.in_ok-deletions-in-Ok.ensures
    ∙ ap (map Del) (is_the_list c.self.inside.leases c.self.inside.keys.history c.args.id
    (map string_bytes c.in-Ok.keys.items) c.in-Ok.ensures.ok c.self.invariant.0)
    ∙ ap (λ (s : StoreView). deletions_of s.standing.history c.args.id) c.self.view_is
