-- What the writes of a run change of the state as it is now.
use Rattle.std.specs.Prelude.{ℕ, Bool, is_some, List}
use Rattle.stm_history.specs.declared.change.Change.{Change}
use Rattle.stm_history.specs.History.{History, key_now}
use Rattle.stm_meaning.specs.Writes.{effect}

-- a key is present now
abbrev pub is_present : History → List ℕ → Bool
is_present h key = is_some (key_now h key)

-- the changes of a commit: the effect of the run's writes on the state as it is now
abbrev pub changes_of_writes : History → List Change → List Change
changes_of_writes h writes = effect (is_present h) writes
