-- The changes of a revision, wherever they stand.
use Rattle.std.specs.Prelude.{List, [], ◌∷◌}
use Rattle.stm_history.specs.declared.change.Change.{Change}
use Rattle.stm_txn.specs.declared.changes.Changes.{Changes}
use Rattle.stm_txn.specs.declared.changes.Changes.TheVariants.{One, More}

abbrev pub changes_held : Changes → List Change
changes_held (One change) = change ∷ []
changes_held (More changes) = changes.items
