-- A sound world: what stays so from step to step, with no log of what went before.
--
-- The Go package `concurrency`, "STM": what a program reads is what the store had. etcd's API reference, "Watch": a watch that is not
-- cancelled is notified of everything. That the entries replay to the store is our own.
use Rattle.std.specs.Prelude.{◌≡◌, ◌≤◌, ℕ, List, ◌++◌, Option, Some}
use Rattle.stm_history.specs.History.{History, now}
use Rattle.stm_outcome.specs.declared.advance.Expired.{Expired}
use Rattle.stm_outcome.specs.declared.refusal.Refusal.{Refusal as StoreRefusal}
use Rattle.stm_outcome.specs.Terms.{most_operations}
use Rattle.stm_txn.specs.Standing.{Standing, HasKept, at_moment, expire_up_to, Setup}
use Rattle.stm_compile.specs.Answers.{AreTrue}
use Rattle.stm_attempt.specs.Known.{Known}
use Rattle.stm_attempt.specs.Fetches.{at_of}
use Rattle.stm_entries.specs.Replayed.{opened_with, without_moment}
use Rattle.stm_entries.specs.Replay.{replay}
use Rattle.stm_entries.specs.Legal.{AreLegal}
use Rattle.stm_entries.specs.Entered.{expiries}
use Rattle.stm_events.specs.declared.event.WorldEvent.{WorldEvent}
use Rattle.stm_world.specs.World.{World, Runner, runner_at, opened, step, world_after}

-- what an attempt has read, and what is prefetched for it, is true
abbrev pub KnowsTruth : History → Known → Type 0
KnowsTruth h known = AreTrue h known.reads × AreTrue h known.prefetched

-- The entries replay from the opening of the store to the store, each legal at its point, and each runner that has not ended
-- knows the truth. The floor is a revision that the store has reached, if it was ever compacted, and nothing below it is pending for a
-- watcher that is not lost. The store's limit of operations is at most the highest one.
pub record IsSound (w : World) : Type 0 where
  pub replays : replay w.entries (opened_with w.standing.history.opening) ≡ without_moment w.standing
  pub legal : AreLegal w.entries (opened_with w.standing.history.opening)
  pub truth : (id : ℕ) (r : Runner) → runner_at id w.runners ≡ Some r → KnowsTruth w.standing.history r.known
  pub kept : HasKept w.standing
  pub limit : w.standing.limit ≤ most_operations

-- a world whose store came to this by expiries
abbrev pub after_expiries : World → Standing → List Expired → World
after_expiries w left expired = record { standing = left; runners = w.runners; entries = w.entries ++ expiries expired }

-- A world opens sound, each step keeps it so, and an advance does that was cut short after some expiries. In a sound world the
-- revision that a runner's next fetch names is reached.
pub record WorldsAreSound : Type 0 where
  pub opens : (start : Setup) → IsSound (opened start)
  pub steps : (event : WorldEvent) (w : World) → IsSound w → IsSound (step event w).next
  pub expires : (w : World) (moment many : ℕ) (expired : List Expired) (left : Standing) (cause : Option StoreRefusal) → IsSound w
      → expire_up_to many (at_moment w.standing moment) ≡ record { expired = expired; leaves = left; cause = cause }
      → IsSound (after_expiries w left expired)
  pub goes_on : (events : List WorldEvent) (w : World) → IsSound w → IsSound (world_after events w)
  pub base_is_reached : (w : World) (id : ℕ) (r : Runner) → IsSound w → runner_at id w.runners ≡ Some r
      → at_of r.task.level r.known.reads ≤ now w.standing.history
