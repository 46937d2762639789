-- A law of numbers that are drawn, carried by a function of `src/laws.rt`.
use Rattle.std.specs.Prelude.{◌≡◌, ℕ, List, length}
use Rattle.stm_job.specs.Draw.{EachOnce}

-- where a list has the numbers below n, each once, it has n numbers
abbrev pub EachOnceIsAsMany : Type 0
EachOnceIsAsMany = (n : ℕ) (numbers : List ℕ) → EachOnce n numbers → length numbers ≡ n
