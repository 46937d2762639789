-- What the commit of a transaction comes to, of which nothing else is known than what its store says.
use Rattle.std.specs.Prelude.{Result, Ok, Err}
use Rattle.stm_outcome.specs.declared.refusal.Refusal.{Refusal}
use Rattle.stm_closures.specs.declared.store_access.CommitOutcome.{CommitOutcome}
use Rattle.stm_closures.specs.declared.store_access.CommitOutcome.TheVariants.{Committed, Conflict, Exchanged}

-- where a commit was made it is one, and nothing was committed where it was not
abbrev pub CommitReturns : Type 0 → Type 0 → Result CommitOutcome Refusal → Type 0
CommitReturns committed left (Ok Committed) = committed
CommitReturns committed left (Ok (Conflict again)) = left
CommitReturns committed left (Ok Exchanged) = left
CommitReturns committed left (Err cause) = left
