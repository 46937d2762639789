-- Why a store refuses a read: as its keys do.
use Rattle.stm_keys.specs.declared.refusal.ReadRefusal.{ReadRefusal}
use Rattle.stm_keys.specs.declared.refusal.ReadRefusal.TheVariants.{FutureRevision as KeysFuture, Compacted as KeysCompacted}
use Rattle.stm_outcome.specs.declared.refusal.Refusal.{Refusal}
use Rattle.stm_outcome.specs.declared.refusal.Refusal.TheVariants.{FutureRevision, Compacted}

abbrev pub cause_read : ReadRefusal → Refusal
cause_read KeysFuture = FutureRevision
cause_read KeysCompacted = Compacted
