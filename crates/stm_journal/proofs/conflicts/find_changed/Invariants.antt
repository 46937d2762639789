use Rattle.std.proofs.Common.{◌≡◌, ◌+◌, drop, map}
use Rattle.stm_history.specs.History.{key_now}
use Rattle.stm_outcome.specs.Compares.{first_failed}
use Rattle.stm_compile.specs.CommitTxn.{is_as_read}
use Rattle.stm_journal.proofs.conflicts.find_changed.Given as goal

-- the first changed key is looked for in the rest
abbrev pub invariant-loop-place : goal.invariant-loop-place
invariant-loop-place l =
    first_failed (key_now l.keys.history) (0 + l.place) (map is_as_read (drop l.place l.answers)) ≡ first_failed (key_now l.keys.history) 0 (map is_as_read l.answers)
