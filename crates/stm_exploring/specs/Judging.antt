-- What is known of rules, by schedules or by serial orders, and what is printed of that.
use Rattle.std.specs.Prelude.{◌≡◌, ℕ, List, [], ◌∷◌, ◌++◌, length, map, All, Bool, true, false, if◌then◌else◌, Option, None, Some, codes}
use Rattle.std.specs.List.{AllZip, concat, find, list_all, list_any}
use Rattle.serde_json.specs.Data.{Data, null, string}
use Rattle.stm_report_lines.specs.LineData.{list, whole}
use Rattle.stm_report_lines.specs.Text.{line_text}
use Rattle.stm_program.specs.Syntax.{ProgramTree}
use Rattle.stm_program.specs.declared.level.Level.TheVariants.{ReadCommitted}
use Rattle.stm_schedules.specs.declared.moves.Move.{Move}
use Rattle.stm_schedules.specs.Outcomes.{Ends}
use Rattle.stm_schedules.specs.Places.{Place}
use Rattle.stm_texts.specs.Writing.{written_scenario}
use Rattle.stm_texts.specs.declared.scenario.Scenario.{Scenario}
use Rattle.stm_explore.specs.Explored.{IsExplored, MergesAreKept}
use Rattle.stm_explore.specs.Waiting.{IsExploredPatiently}
use Rattle.stm_explore.specs.declared.asking.When.{When}
use Rattle.stm_explore.specs.declared.asking.When.TheVariants.{Each, Last}
use Rattle.stm_explore.specs.declared.waits.Wait.{Wait}
use Rattle.stm_explore.specs.declared.exploring.Explored.{Explored}
use Rattle.stm_explore.specs.declared.exploring.Explored.TheVariants.{Always, Broken, Open}
use Rattle.stm_serial_search.specs.Replaying.{IsJudged}
use Rattle.stm_serial_search.specs.declared.judging.Judged.TheVariants.{Always as AlwaysJudged, Broken as BrokenJudged}
use Rattle.stm_exploring.specs.declared.judging.Answer.{Answer}
use Rattle.stm_exploring.specs.declared.judging.Answer.TheVariants.{BySchedules, AlwaysByOrders, BrokenByOrder}
use Rattle.stm_exploring.specs.declared.printed.SearchAnswer.{SearchAnswer}
use Rattle.stm_exploring.specs.declared.printed.SearchAnswer.TheVariants as verdict
use Rattle.stm_exploring.specs.Asking.{ends_of, place_of, scheduled}
use Rattle.stm_exploring.specs.declared.rules.Rule.{Rule}
use Rattle.stm_exploring.specs.declared.rules.RuleAnswer.{RuleAnswer}
use Rattle.stm_exploring.specs.Lines.{end_data}

-- It is so of the schedules from a place, and of merges of events: what a search through schedules comes to, or what serial orders say.
abbrev pub IsAnswer : ProgramTree → Place → Answer → Type 0
IsAnswer rule p (BySchedules explored) = IsExplored rule p explored × MergesAreKept rule p explored
IsAnswer rule p AlwaysByOrders = IsJudged rule p AlwaysJudged
IsAnswer rule p (BrokenByOrder found) = IsJudged rule p (BrokenJudged found)

-- so it is of each of these rules
abbrev pub AreAnswers : List ProgramTree → Place → List Answer → Type 0
AreAnswers rules p answers = AllZip (λ rule. IsAnswer rule p) rules answers

-- It is so by a search through the schedules in which these runners wait, of whose ends this is known.
abbrev pub IsFoundPatiently : List Wait → When → ProgramTree → Place → Ends → Answer → Type 0
IsFoundPatiently waits when rule p ends (BySchedules explored) = IsExploredPatiently waits when rule p ends explored
IsFoundPatiently waits when rule p ends AlwaysByOrders = ⊥
IsFoundPatiently waits when rule p ends (BrokenByOrder found) = ⊥

-- It is so where these runners wait: where none waits, by any search, and else by one through the schedules in which they wait.
abbrev pub IsFoundFrom : List Wait → ProgramTree → Place → Ends → Answer → Type 0
IsFoundFrom [] rule p ends answer = IsAnswer rule p answer
IsFoundFrom (w ∷ ws) rule p ends answer = IsFoundPatiently (w ∷ ws) Each rule p ends answer

-- the same of a rule that is asked then: there is no law that serial orders are enough where it is asked at the last places alone
abbrev pub IsFoundWhen : When → List Wait → ProgramTree → Place → Ends → Answer → Type 0
IsFoundWhen Each waits rule p ends answer = IsFoundFrom waits rule p ends answer
IsFoundWhen Last waits rule p ends answer = IsFoundPatiently waits Last rule p ends answer

-- the same of each of these, which are asked then
abbrev pub AreFoundEach : When → List Wait → List ProgramTree → Place → Ends → List Answer → Type 0
AreFoundEach when waits rules p ends answers = AllZip (λ rule. IsFoundWhen when waits rule p ends) rules answers

-- the same, by one search through the schedules in which these runners wait
abbrev pub AreFoundPatiently : List Wait → When → List ProgramTree → Place → Ends → List Answer → Type 0
AreFoundPatiently waits when rules p ends answers = AllZip (λ rule. IsFoundPatiently waits when rule p ends) rules answers

-- the same, by one search of any kind where none waits
abbrev pub AreFoundBeside : List Wait → List ProgramTree → Place → Ends → List Answer → Type 0
AreFoundBeside [] rules p ends answers = AreAnswers rules p answers
AreFoundBeside (w ∷ ws) rules p ends answers = AreFoundPatiently (w ∷ ws) Each rules p ends answers

-- the same, by one search for rules that are asked then
abbrev pub AreFoundWhen : When → List Wait → List ProgramTree → Place → Ends → List Answer → Type 0
AreFoundWhen Each waits rules p ends answers = AreFoundBeside waits rules p ends answers
AreFoundWhen Last waits rules p ends answers = AreFoundPatiently waits Last rules p ends answers

-- the same of each rule, in their order
abbrev pub AreFoundFrom : List Wait → List Rule → Place → Ends → List RuleAnswer → Type 0
AreFoundFrom waits rules p ends answers =
    (map (λ (a : RuleAnswer). a.rule) answers ≡ rules) × All (λ (a : RuleAnswer). IsFoundWhen a.rule.when waits a.rule.program p ends a.answer) answers

-- and of a scenario
abbrev pub AreFound : List Wait → List Rule → Scenario → List RuleAnswer → Type 0
AreFound waits rules s answers = AreFoundFrom waits rules (place_of s) (ends_of s) answers

-- the rule of a program, without a name
abbrev pub alone : ProgramTree → Rule
alone program = record { name = None; when = Each; program = program; from = ReadCommitted }

-- ---- what it comes to

abbrev pub verdict_of_explored : Explored → SearchAnswer
verdict_of_explored (Always longest) = verdict.Kept
verdict_of_explored (Broken moves end) = verdict.Broken
verdict_of_explored (Open kept) = verdict.Open

abbrev pub verdict_of : Answer → SearchAnswer
verdict_of (BySchedules explored) = verdict_of_explored explored
verdict_of AlwaysByOrders = verdict.Kept
verdict_of (BrokenByOrder found) = verdict.Broken

abbrev pub is_kept_by : SearchAnswer → Bool
is_kept_by verdict.Kept = true
is_kept_by verdict.Broken = false
is_kept_by verdict.Open = false

abbrev pub is_broken_by : SearchAnswer → Bool
is_broken_by verdict.Kept = false
is_broken_by verdict.Broken = true
is_broken_by verdict.Open = false

abbrev pub is_kept : RuleAnswer → Bool
is_kept a = is_kept_by (verdict_of a.answer)

abbrev pub is_broken : RuleAnswer → Bool
is_broken a = is_broken_by (verdict_of a.answer)

-- broken where one rule is, else kept where each is, else open
abbrev pub verdict_of_all : List RuleAnswer → SearchAnswer
verdict_of_all answers =
    if list_any is_broken answers then verdict.Broken else (if list_all is_kept answers then verdict.Kept else verdict.Open)

-- ---- what is printed

abbrev pub explored_parts : Explored → List Data
explored_parts (Always longest) = string (codes "always") ∷ whole longest ∷ []
explored_parts (Broken moves end) = string (codes "broken") ∷ whole (length moves) ∷ end_data end ∷ []
explored_parts (Open kept) = string (codes "open") ∷ whole kept ∷ []

-- the elements of the line of an answer; serial orders do not tell the length of the longest schedule
abbrev pub answer_parts : Answer → List Data
answer_parts (BySchedules explored) = explored_parts explored
answer_parts AlwaysByOrders = string (codes "always") ∷ null ∷ []
answer_parts (BrokenByOrder found) = string (codes "broken") ∷ whole (length found.moves) ∷ end_data found.end ∷ []

abbrev pub name_parts : Option (List ℕ) → List Data
name_parts None = []
name_parts (Some name) = string name ∷ []

-- the same, and the name of its rule
abbrev pub named_parts : RuleAnswer → List Data
named_parts a = answer_parts a.answer ++ name_parts a.rule.name

abbrev pub answer_line : RuleAnswer → Data
answer_line a = list (named_parts a)

abbrev pub answer_text : RuleAnswer → List ℕ
answer_text a = line_text (answer_line a)

abbrev pub scheduled_text : Scenario → List Move → List ℕ
scheduled_text s moves = line_text (written_scenario (scheduled s moves))

abbrev pub explored_schedule : Scenario → Explored → List ℕ
explored_schedule s (Always longest) = []
explored_schedule s (Broken moves end) = scheduled_text s moves
explored_schedule s (Open kept) = []

-- the line of the scenario with the schedule that breaks a rule
abbrev pub schedule_text : Scenario → Answer → List ℕ
schedule_text s (BySchedules explored) = explored_schedule s explored
schedule_text s AlwaysByOrders = []
schedule_text s (BrokenByOrder found) = scheduled_text s found.moves

abbrev pub broken_text : Scenario → Option RuleAnswer → List ℕ
broken_text s None = []
broken_text s (Some a) = schedule_text s a.answer

-- a line for each rule, and then the schedule that breaks the first one that is broken
abbrev pub answers_text : Scenario → List RuleAnswer → List ℕ
answers_text s answers = concat (map answer_text answers) ++ broken_text s (find is_broken answers)
