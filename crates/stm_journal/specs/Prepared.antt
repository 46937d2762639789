-- What was prepared for a commit.
--
-- The documentation of the Go package `clientv3/concurrency`, "STM": a commit is one transaction. That what it needs is made before it is sent, is our own.
use Rattle.std.specs.Prelude.{◌≡◌, Bool}
use Rattle.stm_outcome.specs.Checks.{has_empty_key}
use Rattle.stm_attempt.specs.ReadyRun.{ReadyRun, IsRunOnItsAnswers}
use Rattle.stm_journal.specs.Verdicts.{txn_of}

-- this is whether the commit of an attempt names an empty key
pub record IsPrepared (ready : ReadyRun) (has_empty : Bool) : Type 0 where
  pub run : IsRunOnItsAnswers ready
  pub names : has_empty ≡ has_empty_key (txn_of ready)
