-- For which causes events are refused, and runs are ended.
use Rattle.std.proofs.Common.{◌≡◌, ℕ, List, Option, Some, None, Ok, Err, refl, arith}
use Rattle.std.specs.Prelude.{Result}
use Rattle.std.proofs.lemmas.Bool.Decides.{nat_tests}
use Rattle.stm_txn.specs.Standing.{Standing, Setup}
use Rattle.stm_events.specs.declared.event.WorldEvent.{WorldEvent}
use Rattle.stm_events.specs.declared.reply.Reply.{Reply}
use Rattle.stm_events.specs.declared.reply.Reply.TheVariants.{Ended}
use Rattle.stm_events.specs.declared.refusal.EventRefusal.{EventRefusal}
use Rattle.stm_events.specs.declared.refusal.EventRefusal.TheVariants.{NoRunner}
use Rattle.stm_events.specs.declared.refusal.Denied.{Denied}
use Rattle.stm_events.specs.Called.{Call, Asked, asked, called}
use Rattle.stm_events.proofs.CallReplies.{call_replies}
use Rattle.stm_world.specs.Task.{Task}
use Rattle.stm_world.specs.Log.{Line, running}
use Rattle.stm_world.specs.Right.{RunnerIsRight, IsRightAsked, IsRight}
use Rattle.stm_world.specs.Causes.{IsOfStore, IsCauseAsked, IsCauseAt, CausesOfWorlds}

-- the cause of a refusal; a reply has none
abbrev cause_in : Result Reply Denied → Option EventRefusal
cause_in (Ok reply) = None
cause_in (Err refusal) = Some refusal.cause

-- a reply that is a refusal is one for a cause of the store
abbrev IsRefusedByStore : Result Reply Denied → Type 0
IsRefusedByStore (Ok reply) = Unit {0}
IsRefusedByStore (Err refusal) = IsOfStore refusal.cause

by_store : (s : Standing) (c : Call) → IsRefusedByStore (called s c).reply
by_store = call_replies IsRefusedByStore (record { told = λ r none. tt; refused = λ cause expired. (cause, refl) })

step_cause : (start : Setup) (log : List Line) (id : ℕ) (o : Option Task) (refusal : Denied) → RunnerIsRight start log id o (Err refusal) →
    refusal.cause ≡ NoRunner
step_cause start log id o refusal right = grind (arith, nat_tests)

refused_asked : (start : Setup) (log : List Line) (a : Asked) (refusal : Denied) → IsRightAsked start log a (Err refusal) → IsCauseAsked a refusal.cause
refused_asked start log a refusal right = grind (arith, nat_tests, step_cause, by_store)

refused : (start : Setup) (log : List Line) (event : WorldEvent) (refusal : Denied) → IsRight start log event (Err refusal) → IsCauseAt event refusal.cause
refused start log event refusal right = refused_asked start log (asked event) refusal right

ended : (start : Setup) (log : List Line) (id runner : ℕ) (o : Option Task) (cause : EventRefusal) →
    RunnerIsRight start log id o (Ok (Ended runner cause)) → IsOfStore cause
ended start log id runner o cause right = grind (arith, nat_tests)

pub causes_of_worlds : CausesOfWorlds
causes_of_worlds = record { refused = refused; ended = λ start log id runner cause right. ended start log id runner (running id log) cause right }
