use Rattle.std.proofs.lemmas.List.Elements.{same_from_all_zip}
use Rattle.stm_lists.proofs.Cloned.{slot_same}
use Rattle.stm_lists.proofs.clones.copy_heads.Goals as goal

pub returns : goal.returns
returns c = same_from_all_zip _ c.args.heads.now.slots c.in_ok-copies.copies.slots c.in_ok-copies.ensures.cases.slots (slot_same _ (λ x y p. p))
