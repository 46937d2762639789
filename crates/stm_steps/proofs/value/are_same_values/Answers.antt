use Rattle.std.proofs.lemmas.Slice.Eq.{slice_eq-Decides}
use Rattle.stm_steps.proofs.SameValues.{value_decides}
use Rattle.stm_steps.proofs.value.are_same_values.Goals as goal

pub returns : goal.returns
returns c = slice_eq-Decides value_decides _ _ _ c.eq.ensures
