use Rattle.std.proofs.Common.{◌≡◌, subst}
use Rattle.stm_history.specs.History.{AreRevisions}
use Rattle.stm_entries.specs.Replayed.{opened_with, without_moment}
use Rattle.stm_entries.specs.Replay.{replay}
use Rattle.stm_entries.specs.Legal.{AreLegal}
use Rattle.stm_world.specs.World.{World}
use Rattle.stm_retry.proofs.KeptWorlds.{are_revisions}
use Rattle.stm_retry.proofs.world.World.history.Goals as goal

pub returns-clause-replays : goal.returns-clause-replays
returns-clause-replays c =
    subst (λ (w : World). replay w.entries (opened_with w.standing.history.opening) ≡ without_moment w.standing) c.self.view_is
    c.self.invariant.sound.replays

pub returns-clause-legal : goal.returns-clause-legal
returns-clause-legal c =
    subst (λ (w : World). AreLegal w.entries (opened_with w.standing.history.opening)) c.self.view_is c.self.invariant.sound.legal

pub returns-clause-revisions : goal.returns-clause-revisions
returns-clause-revisions c =
    subst (λ (w : World). AreRevisions w.standing.history.revisions) c.self.view_is (are_revisions c.self.inside.opened c.self.inside.kept)
