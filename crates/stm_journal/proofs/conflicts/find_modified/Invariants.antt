use Rattle.std.proofs.Common.{◌≡◌, ◌+◌, drop, map}
use Rattle.stm_history.specs.History.{key_now}
use Rattle.stm_outcome.specs.Compares.{first_failed}
use Rattle.stm_compile.specs.CommitTxn.{is_unmodified}
use Rattle.stm_journal.proofs.conflicts.find_modified.Given as goal

-- the first modified key is looked for in the rest
abbrev pub invariant-loop-place : goal.invariant-loop-place
invariant-loop-place l =
    first_failed (key_now l.keys.history) (l.before + l.place) (map (is_unmodified l.first) (drop l.place l.writes))
    ≡ first_failed (key_now l.keys.history) l.before (map (is_unmodified l.first) l.writes)
