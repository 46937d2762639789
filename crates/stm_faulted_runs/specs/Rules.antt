-- The explanation of a rule that comes to a fault on the state that a scenario leaves.
use Rattle.std.specs.Prelude.{◌≡◌, ℕ, List, [], ◌++◌, Option, None, Some, Ok, Err, codes}
use Rattle.serde_json.specs.Data.{Data}
use Rattle.serde_json.specs.Read.{read as read_text}
use Rattle.stm_history.specs.History.{History}
use Rattle.stm_program.specs.Syntax.{ProgramTree}
use Rattle.stm_program_json.specs.Reading.{first_statement, program_of}
use Rattle.stm_program_json.specs.Writing.{written_program}
use Rattle.stm_steps.specs.declared.fault.Fault.{Fault}
use Rattle.stm_steps.specs.declared.state.StateEntry.{StateEntry}
use Rattle.stm_steps.specs.Answer.{Lookup}
use Rattle.stm_steps.specs.Faults.{fault_name}
use Rattle.stm_steps.specs.States.{state_answers}
use Rattle.stm_journal.specs.StateOf.{IsStateOf}
use Rattle.stm_world.specs.World.{opened, world_after}
use Rattle.stm_json.specs.Outcome.{Outcome}
use Rattle.stm_texts.specs.declared.scenario.Scenario.{Scenario}
use Rattle.stm_texts.specs.Opens.{setup_of}
use Rattle.stm_explain.specs.Explaining.{IsExplanationOf}
use Rattle.stm_sites.specs.declared.finding.FoundFault.{FoundFault}
use Rattle.stm_sites.specs.Found.{fault_of}
use Rattle.stm_faulted_runs.specs.Places.{counted_from, ReturnsPlace}

abbrev pub rule_head : Fault → List ℕ
rule_head fault = fault_name fault ++ codes " of the rule"

-- a line of explanation of a fault, with its place in the rule's text, in which the first statement is the element with this index
abbrev pub IsRuleLine : List ℕ → List ℕ → ℕ → FoundFault → List ℕ → Type 0
IsRuleLine name text first found line =
    (more : List ℕ) × ReturnsPlace (counted_from first found.site.place) more × IsExplanationOf name text (rule_head found.fault ++ more) line

-- the line of the fault that was found, and nothing where none was
abbrev pub IsRuleSaid : List ℕ → List ℕ → ℕ → Option FoundFault → List ℕ → Type 0
IsRuleSaid name text first None said = said ≡ []
IsRuleSaid name text first (Some found) said = IsRuleLine name text first found said

-- what is said of a rule over a look-up, by the program that its JSON spells: nothing where it spells none
abbrev pub ExplainsProgram : List ℕ → List ℕ → ℕ → Lookup → Outcome ProgramTree → List ℕ → Type 0
ExplainsProgram name text first look (Ok program) said = IsRuleSaid name text first (fault_of look program.statements) said
ExplainsProgram name text first look (Err bad) said = said ≡ []

-- by its JSON: nothing where it has none
abbrev pub ExplainsData : List ℕ → List ℕ → Lookup → Option Data → List ℕ → Type 0
ExplainsData name text look None said = said ≡ []
ExplainsData name text look (Some d) said = ExplainsProgram name text (first_statement d) look (program_of d) said

-- by its text
abbrev pub ExplainsOver : List ℕ → List ℕ → Lookup → List ℕ → Type 0
ExplainsOver name text look said = ExplainsData name text look (read_text text) said

-- the history that a scenario's run leaves
abbrev pub left_by : Scenario → History
left_by s = (world_after s.events (opened (setup_of s.opening))).standing.history

-- what is said of a rule on the state that a scenario leaves; nothing where there is no scenario
abbrev pub ExplainsRule : List ℕ → List ℕ → Outcome Scenario → List ℕ → Type 0
ExplainsRule name text (Ok s) said = (state : List StateEntry) × IsStateOf (left_by s) state × ExplainsOver name text (state_answers state) said
ExplainsRule name text (Err bad) said = said ≡ []

-- a fault that was found in a program, in whose JSON the first statement is the element with this index: its place there, and why
abbrev pub IsFaultSaid : ℕ → FoundFault → List ℕ → Type 0
IsFaultSaid first found said = (more : List ℕ) × ReturnsPlace (counted_from first found.site.place) more × (said ≡ fault_name found.fault ++ more)

-- the fault that was found in a program; nothing where none was
abbrev pub IsReasonSaid : ProgramTree → Option FoundFault → List ℕ → Type 0
IsReasonSaid program None said = said ≡ []
IsReasonSaid program (Some found) said = IsFaultSaid (first_statement (written_program program)) found said

-- what is said of a program that comes to a fault on a state
abbrev pub SaysFault : ProgramTree → List StateEntry → List ℕ → Type 0
SaysFault program state said = IsReasonSaid program (fault_of (state_answers state) program.statements) said

-- what is said of a rule's program that comes to a fault on the state that a scenario leaves; nothing where there is no scenario
abbrev pub SaysReason : ProgramTree → Outcome Scenario → List ℕ → Type 0
SaysReason program (Ok s) said =
    (state : List StateEntry) × IsStateOf (left_by s) state × SaysFault program state said
SaysReason program (Err bad) said = said ≡ []
