-- The names of refusals, as they are printed.
use Rattle.std.specs.Prelude.{ℕ, List, codes}
use Rattle.stm_outcome.specs.declared.refusal.Refusal.{Refusal}
use Rattle.stm_outcome.specs.declared.refusal.Refusal.TheVariants.{OutOfMemory, EmptyKey, FutureRevision, Compacted, RevisionsUsedUp, LeaseExists, TtlOutOfRange}
use Rattle.stm_outcome.specs.declared.refusal.Refusal.TheVariants.{LeaseIdOutOfRange, LeaseNotFound, NoWatcher, TooManyOps, DuplicateKey, TimeGoesBack}

abbrev pub refusal_name : Refusal → List ℕ
refusal_name OutOfMemory = codes "OutOfMemory"
refusal_name EmptyKey = codes "EmptyKey"
refusal_name FutureRevision = codes "FutureRevision"
refusal_name Compacted = codes "Compacted"
refusal_name RevisionsUsedUp = codes "RevisionsUsedUp"
refusal_name LeaseExists = codes "LeaseExists"
refusal_name TtlOutOfRange = codes "TtlOutOfRange"
refusal_name LeaseIdOutOfRange = codes "LeaseIdOutOfRange"
refusal_name LeaseNotFound = codes "LeaseNotFound"
refusal_name NoWatcher = codes "NoWatcher"
refusal_name TooManyOps = codes "TooManyOps"
refusal_name DuplicateKey = codes "DuplicateKey"
refusal_name TimeGoesBack = codes "TimeGoesBack"
