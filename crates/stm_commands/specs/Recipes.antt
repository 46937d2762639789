-- What the command `recipe` does to its devices, its statuses, and what it says.
use Rattle.std.specs.Prelude.{◌≡◌, ℕ, List, Bool, false, Option, Result, Ok, Err, codes}
use Rattle.std.specs.Io.KnownBytes.{Keeps}
use Rattle.stm_recipe_lines.specs.declared.printing.RecipeFault.{RecipeFault}
use Rattle.stm_recipe_lines.specs.declared.printing.RecipeFault.TheVariants.{OutOfMemory, Words, Write}
use Rattle.stm_recipe_lines.specs.declared.recipe.Recipe.{Recipe}
use Rattle.stm_recipe_lines.specs.declared.words.WordsFault.{WordsFault}
use Rattle.stm_recipe_lines.specs.FaultTexts.{fault_text}
use Rattle.stm_recipe_lines.specs.Printing.{Prints}
use Rattle.stm_explain.specs.Saying.{memory_fault, device_fault, usage_fault, Reports}

-- 2 for words that spell no recipe, 3 where memory ran out or a device failed
abbrev pub fault_status : RecipeFault → ℕ
fault_status OutOfMemory = 3
fault_status (Words fault) = 2
fault_status Write = 3

abbrev pub recipe_usage : List ℕ
recipe_usage = codes "\n\nUsage: stmrun recipe <NAME> [FIRST] [SECOND] [THIRD]\n\nFor more information, try '--help'.\n"

-- of words that spell no recipe what is wrong with them, and the command's usage
abbrev pub fault_message : RecipeFault → List ℕ
fault_message OutOfMemory = memory_fault
fault_message (Words fault) = usage_fault (fault_text fault) recipe_usage
fault_message Write = device_fault

-- what is said and answered of a fault: its own message and status
abbrev pub SaysOf : Option (List ℕ) → Option (List ℕ) → Bool → RecipeFault → ℕ → Type 0
SaysOf before after failed fault status = Reports (fault_status fault) (fault_message fault) before after failed status

abbrev pub EndsBy : {A : Type 0} → Option (List ℕ) → Option (List ℕ) → Bool → Result A RecipeFault → ℕ → Type 0
EndsBy before after failed (Ok u) status = (status ≡ 0) × (failed ≡ false) × Keeps before after
EndsBy before after failed (Err fault) status = SaysOf before after failed fault status

-- the sink at the end: what it held before and holds, and whether it has failed
pub record Printed : Type 0 where
  pub before : Option (List ℕ)
  pub after : Option (List ℕ)
  pub sink_failed : Bool

-- What the command does to its devices, and its status: the line of the recipe that was read of the words, with status 0 and nothing said, and
-- else what is said of the fault.
abbrev pub Ends : Result Recipe WordsFault → Printed → Option (List ℕ) → Option (List ℕ) → Bool → ℕ → Type 0
Ends reading printed before after failed status =
    (ended : Result (Unit {0}) RecipeFault) × Prints reading printed.before printed.after printed.sink_failed ended × EndsBy before after failed ended status
