use Rattle.std.proofs.lemmas.Slice.Eq.{slice_eq-Decides}
use Rattle.stm_keys.proofs.SameEvents.{event_decides}
use Rattle.stm_storing.proofs.likeness.are_same_events.Goals as goal

pub returns : goal.returns
returns c = slice_eq-Decides event_decides _ _ _ c.eq.ensures
