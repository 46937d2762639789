use Rattle.std.proofs.Common.{◌∙◌}
use Rattle.stm_txn.proofs.Copied.{parts_copied, store_copied}
use Rattle.stm_txn.proofs.store.Store.copy.Goals as goal

pub invariant_of-result : goal.invariant_of-result
invariant_of-result c =
    parts_copied c.self.inside.keys c.in-Ok-copy.keys c.self.inside.leases c.in-Ok.leases c.self.inside.watchers c.in_ok-watchers.watchers
    c.in-Ok-copy.ensures c.in-Ok.ensures c.in_ok-watchers.ensures c.self.invariant

pub returns : goal.returns
returns c =
    store_copied c.self.inside.keys c.in-Ok-copy.keys c.self.inside.leases c.in-Ok.leases c.self.inside.watchers c.in_ok-watchers.watchers
    c.in-Ok-copy.ensures c.in-Ok.ensures c.in_ok-watchers.ensures c.self.inside.limit c.self.inside.moment
    ∙ c.self.view_is
