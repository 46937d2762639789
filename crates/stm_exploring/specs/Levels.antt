-- What is known of rules at each of the four levels, and what is printed of that.
use Rattle.std.specs.Prelude.{◌≡◌, ℕ, nat_lt, List, [], ◌∷◌, ◌++◌, map, All, Bool, true, false, if◌then◌else◌, Option, None, Some, Result, codes}
use Rattle.std.specs.List.{concat, list_all, list_any}
use Rattle.serde_json.specs.Data.{Data, null, string}
use Rattle.stm_report_lines.specs.LineData.{list}
use Rattle.stm_report_lines.specs.Text.{line_text}
use Rattle.stm_program.specs.declared.level.Level.{Level}
use Rattle.stm_program.specs.declared.level.Level.TheVariants.{SerializableSnapshot, Serializable, RepeatableReads, ReadCommitted}
use Rattle.stm_schedules.specs.Scenarios.{at_level}
use Rattle.stm_texts.specs.Grammar.{level_text}
use Rattle.stm_texts.specs.declared.scenario.Scenario.{Scenario}
use Rattle.stm_explore.specs.declared.waits.Wait.{Wait}
use Rattle.stm_exploring.specs.declared.leveled.LevelAnswers.{LevelAnswers}
use Rattle.stm_exploring.specs.declared.printed.SearchAnswer.{SearchAnswer}
use Rattle.stm_exploring.specs.declared.printed.SearchAnswer.TheVariants as verdict
use Rattle.stm_exploring.specs.declared.printed.Printed.{Printed}
use Rattle.stm_exploring.specs.declared.reading.ExploreFault.{ExploreFault}
use Rattle.stm_exploring.specs.declared.rules.Rule.{Rule}
use Rattle.stm_exploring.specs.declared.rules.RuleAnswer.{RuleAnswer}
use Rattle.stm_exploring.specs.Exploring.{SearchesOne}
use Rattle.stm_exploring.specs.Judging.{AreFound, is_broken, is_kept, named_parts}

-- the levels, the weakest first
abbrev pub levels : List Level
levels = ReadCommitted ∷ RepeatableReads ∷ Serializable ∷ SerializableSnapshot ∷ []

-- the scenario with each of its starts at a level
abbrev pub leveled : Level → Scenario → Scenario
leveled level s = record { opening = s.opening; events = map (at_level level) s.events }

-- at each of these levels in their order, this is so of the scenario with its starts at that level
abbrev pub AreFoundAt : List Level → List Wait → List Rule → Scenario → List LevelAnswers → Type 0
AreFoundAt ls waits rules s at =
    (map (λ (a : LevelAnswers). a.level) at ≡ ls) × All (λ (a : LevelAnswers). AreFound waits rules (leveled a.level s) a.answers) at

-- ---- what it comes to

-- how strong a level is
abbrev pub strength : Level → ℕ
strength ReadCommitted = 0
strength RepeatableReads = 1
strength Serializable = 2
strength SerializableSnapshot = 3

-- at this level a rule is not to be kept, which is to be kept from another on
abbrev pub is_spared : Level → Level → Bool
is_spared from level = nat_lt (strength level) (strength from)

-- broken where it is to be kept
abbrev pub is_failed : Level → RuleAnswer → Bool
is_failed level a = if is_spared a.rule.from level then false else is_broken a

-- kept, or not to be kept
abbrev pub is_met : Level → RuleAnswer → Bool
is_met level a = if is_spared a.rule.from level then true else is_kept a

abbrev pub has_failed : LevelAnswers → Bool
has_failed a = list_any (is_failed a.level) a.answers

abbrev pub are_met : LevelAnswers → Bool
are_met a = list_all (is_met a.level) a.answers

-- broken where a rule is, at a level at which it is to be kept, else kept where each is, else open
abbrev pub verdict_of_levels : List LevelAnswers → SearchAnswer
verdict_of_levels at = if list_any has_failed at then verdict.Broken else (if list_all are_met at then verdict.Kept else verdict.Open)

-- each rule is always kept
abbrev pub all_kept : LevelAnswers → Bool
all_kept a = list_all is_kept a.answers

-- the first level from which on each rule is always kept
abbrev pub enough : List LevelAnswers → Option Level
enough [] = None
enough (a ∷ at) = if list_all all_kept (a ∷ at) then Some a.level else enough at

-- ---- what is printed

-- the line of an answer, and at its end the level
abbrev pub level_line : Level → RuleAnswer → Data
level_line level a = list (named_parts a ++ string (level_text level) ∷ [])

abbrev pub level_line_text : Level → RuleAnswer → List ℕ
level_line_text level a = line_text (level_line level a)

-- the lines of a level
abbrev pub level_text_of : LevelAnswers → List ℕ
level_text_of a = concat (map (level_line_text a.level) a.answers)

abbrev pub enough_data : Option Level → Data
enough_data None = null
enough_data (Some level) = string (level_text level)

abbrev pub enough_line : Option Level → Data
enough_line level = list (string (codes "enough") ∷ enough_data level ∷ [])

-- the lines of each level, and the least one that is enough
abbrev pub levels_text : List LevelAnswers → List ℕ
levels_text at = concat (map level_text_of at) ++ line_text (enough_line (enough at))

abbrev pub printed_levels : List LevelAnswers → Printed
printed_levels at = record { verdict = verdict_of_levels at; text = levels_text at }

-- ---- the search

abbrev pub ArePrintedAt : List Wait → List Rule → Scenario → Printed → Type 0
ArePrintedAt waits rules s p = (at : List LevelAnswers) × AreFoundAt levels waits rules s at × (p ≡ printed_levels at)

-- what a search of a source at each level did, by its answer: all but the levels is as with one
abbrev pub SearchesLevels : List Wait → List Rule → Option (List ℕ) → Bool → Result Printed ExploreFault → Type 0
SearchesLevels waits rules known failed searched = SearchesOne (ArePrintedAt waits rules) waits None known failed searched
