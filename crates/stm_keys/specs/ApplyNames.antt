-- The names of the refusals of a revision, as a report spells them.
use Rattle.std.specs.Prelude.{ℕ, List, codes}
use Rattle.stm_keys.specs.declared.refusal.ApplyRefusal.{ApplyRefusal}
use Rattle.stm_keys.specs.declared.refusal.ApplyRefusal.TheVariants.{RevisionsUsedUp, OutOfMemory}

abbrev pub apply_refusal_name : ApplyRefusal → List ℕ
apply_refusal_name RevisionsUsedUp = codes "RevisionsUsedUp"
apply_refusal_name OutOfMemory = codes "OutOfMemory"
