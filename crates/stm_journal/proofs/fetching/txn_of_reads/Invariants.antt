use Rattle.std.proofs.Common.{◌≡◌, take, map}
use Rattle.stm_outcome.specs.Commits.{read_op, reads_now}
use Rattle.stm_journal.proofs.fetching.txn_of_reads.Given as goal

-- the keys so far are read
abbrev pub invariant-loop-key : goal.invariant-loop-key
invariant-loop-key l = l.success ≡ map read_op (reads_now (take l.key-index l.keys))
