-- A watcher as the rules see it.
use Rattle.std.specs.Prelude.{ℕ, Bool}
use Rattle.stm_watch.specs.declared.watched.Watched.{Watched}

-- It watches these keys, was notified of, or did not want to know, what happened up to a revision, and is lost where events that it was to
-- see are below the floor of the store.
pub record Watching : Type 0 where
  pub watched : Watched
  pub seen : ℕ
  pub lost : Bool
