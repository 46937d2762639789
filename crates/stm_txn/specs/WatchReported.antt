-- What the watchers answer, as the store reports it. No public clause cites this module.
use Rattle.std.specs.Prelude.{ℕ, Result, Ok, Err}
use Rattle.stm_watch.specs.declared.watchers.Batch.{Batch}
use Rattle.stm_watch.specs.declared.refusal.WatchRefusal.{WatchRefusal}
use Rattle.stm_watch.specs.declared.refusal.PollRefusal.{PollRefusal}
use Rattle.stm_outcome.specs.declared.refusal.Refusal.{Refusal}
use Rattle.stm_txn.specs.Standing.{watch_cause, poll_cause}

abbrev pub watch_reported : Result ℕ WatchRefusal → Result ℕ Refusal
watch_reported (Ok id) = Ok id
watch_reported (Err cause) = Err (watch_cause cause)

abbrev pub poll_reported : Result Batch PollRefusal → Result Batch Refusal
poll_reported (Ok batch) = Ok batch
poll_reported (Err cause) = Err (poll_cause cause)
