use Rattle.std.proofs.Common.{◌≤◌}
use Rattle.stm_history.specs.History.{now}
use Rattle.stm_storing.specs.Past.{Adds, IsChangedIn}
use Rattle.stm_storing.proofs.past.add_changed_since.Given as goal

-- the keys of the events so far were added
abbrev pub invariant-loop-later : goal.invariant-loop-later
invariant-loop-later l =
    (l.later ≤ now l.keys.history) × Adds l.keys.history l.revision (IsChangedIn l.keys.history l.revision l.later) l.fn.past.entries l.past.entries
