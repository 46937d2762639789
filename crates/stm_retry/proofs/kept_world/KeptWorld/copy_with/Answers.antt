use Rattle.std.proofs.Common.{◌∙◌, ap, List}
use Rattle.stm_journal.specs.JournalState.{JournalState}
use Rattle.stm_world.specs.World.{Slot}
use Rattle.stm_retry.specs.WorldOf.{world_of, with_places}
use Rattle.stm_retry.proofs.kept_world.KeptWorld.copy_with.Goals as goal

pub returns : goal.returns
returns c =
    ap (λ (j : JournalState). world_of j c.in_ok-copy.copy.items) c.in_ok-journal.ensures
    ∙ ap (λ (runners : List Slot). world_of c.self.inside.journal runners) c.in_ok-copy.ensures
    ∙ ap (with_places c.args.runners.now.items) c.self.view_is
