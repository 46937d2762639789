-- The numbers of a command line.
use Rattle.std.specs.Prelude.{◌≡◌, ℕ, ◌≤◌, List, Option, None, Some, IsSomeAnd}
use Rattle.std.specs.Str.Parse.{digits_value, without_leading_plus}
use Rattle.stm_arguments.specs.declared.numbers.TheConstants.{LEAST_WIDTH, MOST_ATTEMPTS, MOST_RUNS, MOST_WIDTH, USUAL_BUDGET}

-- the text spells this number
abbrev pub NamesNumber : List ℕ → ℕ → Type 0
NamesNumber text n = n ≡ digits_value 10 (without_leading_plus text)

-- the word is there, and spells this number
abbrev pub NumberAt : Option (List ℕ) → ℕ → Type 0
NumberAt None n = ⊥
NumberAt (Some text) n = NamesNumber text n

-- the number of runs that a word spells, from 1 to MOST_RUNS, and none where there is no word
abbrev pub RunsAt : Option (List ℕ) → Option ℕ → Type 0
RunsAt None runs = runs ≡ None
RunsAt (Some text) runs = IsSomeAnd runs (λ n. (1 ≤ n) × (n ≤ MOST_RUNS) × NamesNumber text n)

-- the width that a word spells, from LEAST_WIDTH to MOST_WIDTH, and none where there is no word
abbrev pub WidthAt : Option (List ℕ) → Option ℕ → Type 0
WidthAt None width = width ≡ None
WidthAt (Some text) width = IsSomeAnd width (λ n. (LEAST_WIDTH ≤ n) × (n ≤ MOST_WIDTH) × NamesNumber text n)

-- the number of events that a word spells, and the usual one where there is no word
abbrev pub BudgetAt : Option (List ℕ) → ℕ → Type 0
BudgetAt None n = n ≡ USUAL_BUDGET
BudgetAt (Some text) n = NamesNumber text n

-- the number of commits that a word spells, from 1 to MOST_ATTEMPTS, and 1 where there is no word
abbrev pub AttemptsAt : Option (List ℕ) → ℕ → Type 0
AttemptsAt None n = n ≡ 1
AttemptsAt (Some text) n = (1 ≤ n) × (n ≤ MOST_ATTEMPTS) × NamesNumber text n
