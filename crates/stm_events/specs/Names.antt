-- The names of refusals, as a report spells them.
use Rattle.std.specs.Prelude.{ℕ, List, codes}
use Rattle.stm_events.specs.declared.refusal.EventRefusal.{EventRefusal}
use Rattle.stm_events.specs.declared.refusal.EventRefusal.TheVariants.{Kind, Overflow, ZeroDivisor, NotANumber, LoopTooLong, TurnLimit, TextTooLong, EmptyKey}
use Rattle.stm_events.specs.declared.refusal.EventRefusal.TheVariants.{OutOfMemory, BadProgram, FutureRevision, Compacted, RevisionsUsedUp}
use Rattle.stm_events.specs.declared.refusal.EventRefusal.TheVariants.{LeaseExists, TtlOutOfRange, LeaseIdOutOfRange, LeaseNotFound, NoWatcher, TooManyOps}
use Rattle.stm_events.specs.declared.refusal.EventRefusal.TheVariants.{DuplicateKey, TimeGoesBack, BadLimit, NoRunner, Behind, Unvouched}

abbrev pub refusal_name : EventRefusal → List ℕ
refusal_name Kind = codes "Kind"
refusal_name Overflow = codes "Overflow"
refusal_name ZeroDivisor = codes "ZeroDivisor"
refusal_name NotANumber = codes "NotANumber"
refusal_name LoopTooLong = codes "LoopTooLong"
refusal_name TurnLimit = codes "TurnLimit"
refusal_name TextTooLong = codes "TextTooLong"
refusal_name EmptyKey = codes "EmptyKey"
refusal_name OutOfMemory = codes "OutOfMemory"
refusal_name BadProgram = codes "BadProgram"
refusal_name FutureRevision = codes "FutureRevision"
refusal_name Compacted = codes "Compacted"
refusal_name RevisionsUsedUp = codes "RevisionsUsedUp"
refusal_name LeaseExists = codes "LeaseExists"
refusal_name TtlOutOfRange = codes "TtlOutOfRange"
refusal_name LeaseIdOutOfRange = codes "LeaseIdOutOfRange"
refusal_name LeaseNotFound = codes "LeaseNotFound"
refusal_name NoWatcher = codes "NoWatcher"
refusal_name TooManyOps = codes "TooManyOps"
refusal_name DuplicateKey = codes "DuplicateKey"
refusal_name TimeGoesBack = codes "TimeGoesBack"
refusal_name BadLimit = codes "BadLimit"
refusal_name NoRunner = codes "NoRunner"
refusal_name Behind = codes "Behind"
refusal_name Unvouched = codes "Unvouched"
