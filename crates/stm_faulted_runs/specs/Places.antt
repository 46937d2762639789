-- What is said of the place of a fault.
use Rattle.std.specs.Prelude.{◌≡◌, ◌≢◌, ◌⊎◌, ◌<◌, ◌+◌, ⊤, ℕ, suc, nat_eq, if◌then◌else◌, List, [], ◌∷◌, ◌++◌, Option, None, Some, option_and_then}
use Rattle.std.specs.Prelude.{unwrap_or, codes}
use Rattle.serde_json.specs.Data.{Data, null}
use Rattle.serde_json.specs.Find.{at}
use Rattle.serde_json.specs.Read.{read as read_text}
use Rattle.stm_json.specs.Outcome.{step}
use Rattle.stm_program.specs.Syntax.{ProgramTree}
use Rattle.stm_program_json.specs.Reading.{first_statement}
use Rattle.stm_steps.specs.declared.fault.Fault.{Fault}
use Rattle.stm_steps.specs.Answer.{Lookup}
use Rattle.stm_events.specs.declared.event.WorldEvent.{WorldEvent}
use Rattle.stm_events.specs.declared.event.WorldEvent.TheVariants.{Start}
use Rattle.stm_sites.specs.declared.finding.FoundFault.{FoundFault}
use Rattle.stm_sites.specs.Found.{fault_of}

-- the JSON Pointer of these indices
abbrev pub pointer : List ℕ → List ℕ
pointer [] = []
pointer (index ∷ indices) = step index ++ pointer indices

-- the JSON that a text spells, null where it spells none
abbrev pub json_of : List ℕ → Data
json_of text = unwrap_or (read_text text) null

-- the index of the first statement of a program that may be there
abbrev pub first_of_program : Option Data → ℕ
first_of_program None = 0
first_of_program (Some d) = first_statement d

-- the same, of the program of the start that is an element of a scenario's JSON
abbrev pub first_in : Data → ℕ → ℕ
first_in scenario element = first_of_program (option_and_then (at 3) (at element scenario))

-- a place in the statements of a program, of which the first is the element with this index
abbrev pub counted_from : ℕ → List ℕ → List ℕ
counted_from first [] = []
counted_from first (index ∷ inner) = (first + index) ∷ inner

-- a place begins below a number
abbrev pub BeginsBelow : ℕ → List ℕ → Type 0
BeginsBelow most [] = ⊤
BeginsBelow most (index ∷ inner) = index < most

-- a place and a reason are returned
abbrev pub ReturnsPlace : List ℕ → List ℕ → Type 0
ReturnsPlace place more = (reason : List ℕ) × (more ≡ codes " at " ++ pointer place ++ codes ": " ++ reason)

-- what is said of a fault that was found in the program of the start that is an element of a scenario's JSON: its place, where it is the fault that
-- is to be explained, and else nothing
abbrev pub IsMore : Data → ℕ → Fault → Option FoundFault → List ℕ → Type 0
IsMore scenario element fault None more = more ≡ []
IsMore scenario element fault (Some found) more =
    ((found.fault ≡ fault) × ReturnsPlace (element ∷ 3 ∷ counted_from (first_in scenario element) found.site.place) more) ⊎ ((found.fault ≢ fault) × (more ≡ []))

-- ---- the runs that events begin

-- a run: the index of its start among the elements of its scenario, and its program
pub record Started : Type 0 where
  pub element : ℕ
  pub program : ProgramTree

-- the run that an event begins: it is a start that may send a commit, and the element with this index
abbrev pub started_by : ℕ → WorldEvent → List Started
started_by element (Start program level limit) = if nat_eq limit 0 then [] else record { element = element; program = program } ∷ []
started_by element other = []

-- the runs that events begin, in order; the first event is the element with this index
abbrev pub started_in : ℕ → List WorldEvent → List Started
started_in element [] = []
started_in element (e ∷ es) = started_by element e ++ started_in (suc element) es

-- what is said of a fault that a run in a scenario with this JSON comes to over a look-up; nothing where there is no such run
abbrev pub IsMoreOf : Data → Option Started → Lookup → Fault → List ℕ → Type 0
IsMoreOf scenario None look fault more = more ≡ []
IsMoreOf scenario (Some run) look fault more = IsMore scenario run.element fault (fault_of look run.program.statements) more
