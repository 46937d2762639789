-- What the comparison of two texts comes to.
use Rattle.std.specs.Prelude.{ℕ, List, Bool, true, false, Option, Some, None}
use Rattle.stm_report.specs.declared.whole_comparing.WholeChecked.{WholeChecked}
use Rattle.stm_report.specs.declared.whole_comparing.WholeChecked.TheVariants.{Yes, No}
use Rattle.stm_report.specs.WholeLines.{lines_in, first_unlike}

abbrev pub is_yes : WholeChecked → Bool
is_yes Yes = true
is_yes (No line expected) = false

abbrev pub answer_at : Option (ℕ × List ℕ) → WholeChecked
answer_at None = Yes
answer_at (Some p) = No p.0 p.1

-- yes where two texts are alike line by line, else the first line that is not, counted from 1, and what is expected there
abbrev pub compared : List ℕ → List ℕ → WholeChecked
compared expected given = answer_at (first_unlike 1 (lines_in expected) (lines_in given))
