-- The names of the refusals of a read, as a report spells them.
use Rattle.std.specs.Prelude.{ℕ, List, codes}
use Rattle.stm_keys.specs.declared.refusal.ReadRefusal.{ReadRefusal}
use Rattle.stm_keys.specs.declared.refusal.ReadRefusal.TheVariants.{FutureRevision, Compacted}

abbrev pub read_refusal_name : ReadRefusal → List ℕ
read_refusal_name FutureRevision = codes "FutureRevision"
read_refusal_name Compacted = codes "Compacted"
