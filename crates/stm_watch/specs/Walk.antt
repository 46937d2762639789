-- The next revision of which a watcher is notified. No public clause cites this module.
use Rattle.std.specs.Prelude.{ℕ, Option}
use Rattle.stm_history.specs.History.{History}
use Rattle.stm_watch.specs.declared.watched.Watched.{Watched}
use Rattle.stm_watch.specs.Pending.{pending_above, number_of_first}

-- the first revision above one of which a watcher is notified
abbrev pub first_above : History → Watched → ℕ → Option ℕ
first_above h watched above = number_of_first (pending_above h.opening above watched h.revisions)
