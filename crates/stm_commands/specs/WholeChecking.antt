-- What the command `check --whole` does to its devices, its statuses, and what it says.
use Rattle.std.specs.Prelude.{◌≡◌, ◌==◌, ℕ, List, ◌++◌, length, Bool, false, if◌then◌else◌, Option, Result, codes, decimal}
use Rattle.std.specs.Io.KnownBytes.{Keeps}
use Rattle.stm_check.specs.declared.sources.CheckFault.{CheckFault}
use Rattle.stm_report.specs.declared.whole_comparing.WholeChecked.{WholeChecked}
use Rattle.stm_report.specs.declared.whole_comparing.WholeChecked.TheVariants.{Yes, No}
use Rattle.stm_report.specs.WholeJudging.{Judges}
use Rattle.stm_commands.specs.Checking.{Devices, DoesTo}
use Rattle.stm_commands.specs.Statuses.{Says}

-- ---- answers

abbrev pub no_text : ℕ → List ℕ
no_text line = codes "no " ++ decimal line ++ codes " Differs\n"

abbrev pub answer_text : WholeChecked → List ℕ
answer_text Yes = codes "yes\n"
answer_text (No line expected) = no_text line

-- the line that is expected, with its line feed, or that there is none
abbrev pub expected_text : List ℕ → List ℕ
expected_text line = if length line == 0 then codes "stmrun: expected no more lines\n" else codes "stmrun: expected " ++ line

-- what is said and answered of a no
abbrev pub SaysExpected : Option (List ℕ) → Option (List ℕ) → Bool → List ℕ → ℕ → Type 0
SaysExpected before after failed expected status = (status ≡ 1) × Says before after failed (expected_text expected)

-- what is said and answered of an answer: nothing and 0, or what is expected and 1
abbrev pub SaysOfAnswer : Option (List ℕ) → Option (List ℕ) → Bool → WholeChecked → ℕ → Type 0
SaysOfAnswer before after failed Yes status = (status ≡ 0) × (failed ≡ false) × Keeps before after
SaysOfAnswer before after failed (No line expected) status = SaysExpected before after failed expected status

-- ---- the command

-- what `check --whole` did, by its answer
abbrev pub Does : Devices → Result WholeChecked CheckFault → Type 0
Does d result = DoesTo answer_text Judges d result
