-- Each refusal of the store is reported under a name of its own.
use Rattle.std.proofs.Common.{◌≡◌, Option, None, Some, sym, ◌∙◌, ap, arith}
use Rattle.std.proofs.lemmas.Bool.Decides.{nat_tests}
use Rattle.stm_outcome.specs.declared.refusal.Refusal.{Refusal as StoreRefusal}
use Rattle.stm_outcome.specs.declared.refusal.Refusal.TheVariants as store
use Rattle.stm_events.specs.declared.refusal.EventRefusal.{EventRefusal}
use Rattle.stm_events.specs.declared.refusal.EventRefusal.TheVariants as event
use Rattle.stm_events.specs.Replies.{event_refusal}

-- the refusal of the store with this name, where it has one
abbrev pub store_cause : EventRefusal → Option StoreRefusal
store_cause event.OutOfMemory = Some store.OutOfMemory
store_cause event.EmptyKey = Some store.EmptyKey
store_cause event.FutureRevision = Some store.FutureRevision
store_cause event.Compacted = Some store.Compacted
store_cause event.RevisionsUsedUp = Some store.RevisionsUsedUp
store_cause event.LeaseExists = Some store.LeaseExists
store_cause event.TtlOutOfRange = Some store.TtlOutOfRange
store_cause event.LeaseIdOutOfRange = Some store.LeaseIdOutOfRange
store_cause event.LeaseNotFound = Some store.LeaseNotFound
store_cause event.NoWatcher = Some store.NoWatcher
store_cause event.TooManyOps = Some store.TooManyOps
store_cause event.DuplicateKey = Some store.DuplicateKey
store_cause event.TimeGoesBack = Some store.TimeGoesBack
store_cause other = None

pub cause_again : (cause : StoreRefusal) → store_cause (event_refusal cause) ≡ Some cause
cause_again cause = grind (arith, nat_tests)

pub one_cause : (a b : StoreRefusal) → event_refusal a ≡ event_refusal b → a ≡ b
one_cause a b same = let e : Some a ≡ Some b = sym (cause_again a) ∙ ap store_cause same ∙ cause_again b in cc
