-- The law of events, carried by a function of `src/laws.rt`.
use Rattle.std.specs.Prelude.{ℕ}
use Rattle.std.specs.List.{AllByRecursion}
use Rattle.stm_history.specs.History.{History, AreRevisions}
use Rattle.stm_keys.specs.Events.{events_of, Shows}

-- Each event of a revision shows its key at that revision.
abbrev pub EventsShow : Type 0
EventsShow = (h : History) (number : ℕ) → AreRevisions h.revisions → AllByRecursion (Shows h number) (events_of h number)
