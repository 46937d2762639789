use Rattle.std.proofs.Common.{◌≡◌, IsTrue, map, reverse, subst}
use Rattle.stm_keys.specs.Chains.{Chain, no_versions, number_of}
use Rattle.stm_keys.proofs.Forgetting.{gone_iff}
use Rattle.stm_keys.proofs.chain.Chain.is_gone.Goals as goal

pub returns-then-is_none : goal.returns-then-is_none
returns-then-is_none c =
    subst (λ (k : Chain). (IsTrue c.is_none-then-is_none.result → k.versions ≡ no_versions) × (k.versions ≡ no_versions → IsTrue c.is_none-then-is_none.result))
    c.self.view_is
    (gone_iff c.self.inside.before (reverse (map number_of c.self.inside.versions.items)) c.self.inside.newest number_of c.is_none.result
    c.is_none-then-is_none.result c.is_none.ensures c.if-is_none.true c.is_none-then-is_none.ensures c.self.invariant)
