-- The explanations of runs that came to a fault: a line for each of them, in order.
use Rattle.std.specs.Prelude.{◌≡◌, ◌⊎◌, ℕ, suc, ◌-◌, List, [], ◌∷◌, ◌++◌, Bool, Option, None, Some, is_some, if◌then◌else◌, Result, Ok, Err, codes, decimal}
use Rattle.std.specs.Prelude.{slice_get}
use Rattle.serde_json.specs.Data.{Data}
use Rattle.stm_history.specs.declared.key_state.ReadAnswer.{ReadAnswer}
use Rattle.stm_steps.specs.declared.fault.Fault.{Fault}
use Rattle.stm_steps.specs.Faults.{fault_name}
use Rattle.stm_steps.specs.Answer.{Lookup}
use Rattle.stm_events.specs.declared.reply.Reply.{Reply}
use Rattle.stm_events.specs.declared.reply.Reply.TheVariants.{Faulted}
use Rattle.stm_events.specs.declared.refusal.Denied.{Denied}
use Rattle.stm_events.specs.declared.event.WorldEvent.{WorldEvent}
use Rattle.stm_world.specs.World.{World, opened, replies_to}
use Rattle.stm_json.specs.Outcome.{Outcome}
use Rattle.stm_texts.specs.declared.scenario.Scenario.{Scenario}
use Rattle.stm_texts.specs.Opens.{setup_of}
use Rattle.stm_explain.specs.Explaining.{IsExplanationOf}
use Rattle.stm_faulted_runs.specs.Reads.{reported_in}
use Rattle.stm_faulted_runs.specs.Places.{Started, started_in, json_of, IsMoreOf}

-- a text under a name, its JSON, and the runs that begin in it
pub record Origin : Type 0 where
  pub name : List ℕ
  pub text : List ℕ
  pub json : Data
  pub runs : List Started

-- a run that came to a fault: how its line begins, its number, counted from 0, and what it had read, where that is known
pub record FaultReport : Type 0 where
  pub head : List ℕ
  pub fault : Fault
  pub number : ℕ
  pub reads : Option (List ReadAnswer)

-- over the answers that were read, where they are known, and else over some look-up
abbrev pub OverReads : Option (List ReadAnswer) → (Lookup → Type 0) → Type 0
OverReads None says = (look : Lookup) × says look
OverReads (Some reads) says = says (reported_in reads)

-- what is said of the place of its fault
abbrev pub IsMoreOfReported : Origin → FaultReport → List ℕ → Type 0
IsMoreOfReported origin reported more = OverReads reported.reads (λ look. IsMoreOf origin.json (slice_get origin.runs reported.number) look reported.fault more)

-- a line of explanation that begins so, and says the place
abbrev pub IsLineOf : Origin → FaultReport → List ℕ → Type 0
IsLineOf origin reported line = (more : List ℕ) × IsMoreOfReported origin reported more × IsExplanationOf origin.name origin.text (reported.head ++ more) line

-- a line for each, in order
abbrev pub ExplainsEach : Origin → List FaultReport → List ℕ → Type 0
ExplainsEach origin [] said = said ≡ []
ExplainsEach origin (reported ∷ others) said =
    (line : List ℕ) × (rest : List ℕ) × (said ≡ line ++ rest) × IsLineOf origin reported line × ExplainsEach origin others rest

-- lines for these were added
abbrev pub Adds : Origin → List FaultReport → List ℕ → List ℕ → Type 0
Adds origin all_reported old new = (said : List ℕ) × (new ≡ old ++ said) × ExplainsEach origin all_reported said

-- said in this form, or nothing, where an allocation failed
abbrev pub OrNothing : (List ℕ → Type 0) → List ℕ → Type 0
OrNothing Form said = (said ≡ []) ⊎ Form said

-- ---- runs of a scenario

-- the number of the event that ended a run, its fault, and the number of its runner
abbrev pub run_head : ℕ → Fault → ℕ → List ℕ
run_head event fault runner = codes "event " ++ decimal event ++ codes ": " ++ fault_name fault ++ codes " of runner " ++ decimal runner

-- the fault of a runner that the event with this number reported; runners are numbered from 1
abbrev pub reported_of_run : ℕ → ℕ → Fault → FaultReport
reported_of_run event runner fault = record { head = run_head event fault runner; fault = fault; number = runner - 1; reads = None }

-- the reply to the event with this number, where it reports a fault
abbrev pub reported_by : ℕ → Result Reply Denied → List FaultReport
reported_by event (Ok (Faulted runner fault)) = reported_of_run event runner fault ∷ []
reported_by event other = []

-- those of the replies that do, of which the first is to the event with this number
abbrev pub faults_reported : ℕ → List (Result Reply Denied) → List FaultReport
faults_reported event [] = []
faults_reported event (reply ∷ replies) = reported_by event reply ++ faults_reported (suc event) replies

-- those of the replies to these events, from a world
abbrev pub faults_from : World → List WorldEvent → List FaultReport
faults_from w events = faults_reported 1 (replies_to events w)

-- how many elements stand before the events of a scenario: that with its opening, where it has one
abbrev pub first_of : Bool → ℕ
first_of opens = if opens then 1 else 0

abbrev pub origin_of : List ℕ → List ℕ → Scenario → Origin
origin_of name text s = record { name = name; text = text; json = json_of text; runs = started_in (first_of (is_some s.opening)) s.events }

-- what is said of the run of a scenario; nothing where there is no scenario
abbrev pub ExplainsRun : List ℕ → List ℕ → Outcome Scenario → List ℕ → Type 0
ExplainsRun name text (Ok s) said = ExplainsEach (origin_of name text s) (faults_from (opened (setup_of s.opening)) s.events) said
ExplainsRun name text (Err bad) said = said ≡ []
