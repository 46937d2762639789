-- A world over its whole history, and what is kept of it.
--
-- etcd's API reference, "Compaction": the revisions below the compacted one are dropped, and what a store shows from there on stays. That a
-- world is seen over the whole history, which its entries lead to, is our own.
use Rattle.std.specs.Prelude.{◌≡◌, ◌≤◌, ℕ, List, Some, Result}
use Rattle.stm_history.specs.Opening.{Opening}
use Rattle.stm_history.specs.History.{now}
use Rattle.stm_txn.specs.Standing.{Standing, with_history, kept, compacted}
use Rattle.stm_attempt.specs.Fetches.{at_of}
use Rattle.stm_entries.specs.declared.entry.Entry.{Entry}
use Rattle.stm_entries.specs.Replayed.{opened_with}
use Rattle.stm_entries.specs.Replay.{replay}
use Rattle.stm_events.specs.declared.event.WorldEvent.{WorldEvent}
use Rattle.stm_events.specs.declared.event.WorldEvent.TheVariants.{Compact}
use Rattle.stm_events.specs.declared.reply.Reply.{Reply}
use Rattle.stm_events.specs.declared.reply.Reply.TheVariants.{Compacted}
use Rattle.stm_events.specs.declared.refusal.Denied.{Denied}
use Rattle.stm_events.specs.Replies.{reply_to, store_after_call}
use Rattle.stm_world.specs.World.{World, Runner, Stepped, runner_at, after_quiet_call}
use Rattle.stm_world.specs.Sound.{IsSound}
use Rattle.stm_retry.specs.Returns.{IsStep, Returns}

-- the store over the whole history: the one to which the entries lead from what the store opened with
abbrev pub whole_store : Opening → List Entry → Standing → Standing
whole_store opened entries s = with_history s (replay entries (opened_with opened)).history

-- the world of which this one is kept
abbrev pub whole_world : Opening → World → World
whole_world opened w = record { standing = whole_store opened w.entries w.standing; runners = w.runners; entries = w.entries }

-- the world without the revisions below the floor of its store
abbrev pub kept_world : World → World
kept_world w = record { standing = kept w.standing; runners = w.runners; entries = w.entries }

-- A world is sound, and this store stands for its history: it is its store without the revisions below the floor.
pub record IsKeptBy (store : Standing) (w : World) : Type 0 where
  pub sound : IsSound w
  pub stands : store ≡ kept w.standing

-- ---- what an event comes to in a world of which only that is kept

-- a compaction, which drops what is below its revision
abbrev pub compact_kept : ℕ → World → Stepped
compact_kept revision w =
    let o = compacted w.standing revision in
    after_quiet_call (reply_to (λ _. Compacted revision) o) (store_after_call w.standing o) w

-- The reply and the next world are the step's, unless memory ran out; but a compaction drops something.
abbrev pub KeptReturns : WorldEvent → Result Reply Denied → World → World → Type 0
KeptReturns (Compact revision) reply old new = IsStep (compact_kept revision old) reply new
KeptReturns event reply old new = Returns event reply old new

-- the revision that the next fetch of each runner names is reached
abbrev pub BasesAreReached : World → Type 0
BasesAreReached w = (id : ℕ) (r : Runner) → runner_at id w.runners ≡ Some r → at_of r.task.level r.known.reads ≤ now w.standing.history
