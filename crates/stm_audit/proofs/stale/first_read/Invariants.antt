use Rattle.std.proofs.Common.{◌≡◌, fold, min, drop}
use Rattle.stm_history.specs.declared.revisions.TheConstants.{HIGHEST_REVISION}
use Rattle.stm_events.specs.declared.reply.CommittedRead.{CommittedRead}
use Rattle.stm_audit.proofs.stale.first_read.Given as goal

abbrev pub invariant-loop-read : goal.invariant-loop-read
invariant-loop-read l =
    fold (λ least (a : CommittedRead). min least a.of_rev) HIGHEST_REVISION l.reads
    ≡ fold (λ least (a : CommittedRead). min least a.of_rev) l.first (drop l.read-index l.reads)
