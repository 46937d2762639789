-- A store's refusal and a program's fault have one name each, in a report's lines and wherever else they are printed.
use Rattle.std.specs.Prelude.{◌≡◌, ℕ, List, Some}
use Rattle.stm_steps.specs.declared.fault.Fault.{Fault}
use Rattle.stm_steps.specs.declared.fault.Fault.TheVariants as fault
use Rattle.stm_meaning.specs.Faults.{fault_name}
use Rattle.stm_outcome.specs.declared.refusal.Refusal.{Refusal as StoreRefusal}
use Rattle.stm_outcome.specs.Names.{refusal_name as store_refusal_name}
use Rattle.stm_events.specs.declared.refusal.EventRefusal.{EventRefusal}
use Rattle.stm_events.specs.declared.refusal.EventRefusal.TheVariants as cause
use Rattle.stm_events.specs.Names.{refusal_name}
use Rattle.stm_events.specs.Replies.{event_refusal}
use Rattle.stm_report_lines.specs.Words.{named, fault_words, refusal_words}

-- a program's fault as a refusal
abbrev pub fault_refusal : Fault → EventRefusal
fault_refusal fault.Kind = cause.Kind
fault_refusal fault.Overflow = cause.Overflow
fault_refusal fault.ZeroDivisor = cause.ZeroDivisor
fault_refusal fault.NotANumber = cause.NotANumber
fault_refusal fault.LoopTooLong = cause.LoopTooLong
fault_refusal fault.TurnLimit = cause.TurnLimit
fault_refusal fault.TextTooLong = cause.TextTooLong
fault_refusal fault.EmptyKey = cause.EmptyKey

pub record NamesAgree : Type 0 where
  -- the line of an event or a run that the store refused has the name under which the store's refusal is printed elsewhere
  pub refusals : (cause : StoreRefusal) → refusal_name (event_refusal cause) ≡ store_refusal_name cause
  -- a report may say a program's fault as a refusal, and it has one name as either
  pub faults : (fault : Fault) → refusal_name (fault_refusal fault) ≡ fault_name fault
  -- a word is read as a refusal exactly where it is the refusal's name
  pub refusals_read : (cause : EventRefusal) → named refusal_words (refusal_name cause) ≡ Some cause
  pub refusals_meant : (word : List ℕ) (cause : EventRefusal) → named refusal_words word ≡ Some cause → word ≡ refusal_name cause
  -- and as a fault exactly where it is the fault's name
  pub faults_read : (fault : Fault) → named fault_words (fault_name fault) ≡ Some fault
  pub faults_meant : (word : List ℕ) (fault : Fault) → named fault_words word ≡ Some fault → word ≡ fault_name fault
