-- What is said of how the runs of runners ended.
use Rattle.std.specs.Prelude.{ℕ, List, [], Bool, true, false, codes}

-- that a runner never committed is said where all was looked at and it did not
abbrev pub never_words : Bool → Bool → List ℕ
never_words true is_all = []
never_words false true = codes " never committed"
never_words false false = []
