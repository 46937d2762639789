use Rattle.std.proofs.lemmas.Slice.Eq.{slice_eq-Decides}
use Rattle.stm_steps.proofs.SameValues.{item_decides}
use Rattle.stm_steps.proofs.trace_item.are_same_traces.Goals as goal

pub returns : goal.returns
returns c = slice_eq-Decides item_decides _ _ _ c.eq.ensures
