use Rattle.std.proofs.Common.{rules}
use Rattle.std.proofs.lemmas.Fn.{always_returns_same}
use Rattle.stm_steps.specs.States.{key_order}
use Rattle.stm_steps.proofs.Entries.{searched}
use Rattle.stm_steps.proofs.state.State.search.Goals as goal

-- the closure compares an entry's key with the key, and the slice is the state's entries
pub returns-clause-found : goal.returns-clause-found
returns-clause-found c =
    let facts = c.binary_search_by.ensures in
    let by_key = facts.position (λ e. key_order e.key c.args.key.now) (always_returns_same _ _ _ (λ a r f called. search rules)) in
    rw (← c.self.view_is, ← c.deref.ensures.value) ((searched _ c.args.key.now _ (rw c.deref.ensures.value c.self.invariant.0) facts.bound by_key).0)

pub returns-clause-absent : goal.returns-clause-absent
returns-clause-absent c =
    let facts = c.binary_search_by.ensures in
    let by_key = facts.position (λ e. key_order e.key c.args.key.now) (always_returns_same _ _ _ (λ a r f called. search rules)) in
    rw (← c.self.view_is, ← c.deref.ensures.value) ((searched _ c.args.key.now _ (rw c.deref.ensures.value c.self.invariant.0) facts.bound by_key).1)
