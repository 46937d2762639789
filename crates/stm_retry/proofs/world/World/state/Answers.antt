use Rattle.std.proofs.Common.{◌∙◌, ap}
use Rattle.stm_txn.specs.Standing.{Standing}
use Rattle.stm_retry.specs.declared.world.World.TheInside.{Inside}
use Rattle.stm_retry.proofs.KeptWorlds.{state_reported}
use Rattle.stm_retry.proofs.world.World.state.Goals as goal

pub returns : goal.returns
returns c =
    state_reported c.self.inside.opened c.self.inside.kept c.args.self.now c.state_of.result c.self.invariant c.self.view_is
    (c.keys.ensures.history ∙ ap (λ (s : Standing). s.history) c.store.ensures ∙ ap (λ (w : Inside). w.kept.standing.history) c.self-inside.view_is) c.state_of.ensures
