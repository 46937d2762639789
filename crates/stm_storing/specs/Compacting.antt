-- What the file of a world is once it was written anew as a checkpoint, also where a crash comes at any moment of that.
--
-- etcd's API reference, "Compaction": what a store shows from the compacted revision on stays. That it is looked at before the file is written is our own.
use Rattle.std.specs.Prelude.{◌≡◌, ◌⊎◌, ◌≤◌, ◌+◌, ℕ, false, is_some, List, Option, None, Some}
use Rattle.std.specs.List.{list_any}
use Rattle.stm_history.specs.History.{now, key_at}
use Rattle.stm_keys.specs.Events.{events_of}
use Rattle.stm_txn.specs.Standing.{Standing, kept}
use Rattle.stm_world.specs.World.{World, runner_at}
use Rattle.stm_records.specs.RecordFiles.{OpensAlike}
use Rattle.stm_lasting.specs.Kept.{IsKept, OpensTo, HasRecords}
use Rattle.stm_storing.specs.Storing.{IsToCome, IsCompacted, CanBeRead}

-- Two stores show the same at a revision, and above it have had the same events; they have the same leases, moment and limit of operations.
pub record ShowsTheSame (floor : ℕ) (s t : Standing) : Type 0 where
  pub reached : now s.history ≡ now t.history
  pub keys : (key : List ℕ) → key_at s.history key floor ≡ key_at t.history key floor
  pub events : (r : ℕ) → floor ≤ r → r ≤ now s.history → events_of s.history r ≡ events_of t.history r
  pub live : s.live ≡ t.live
  pub moment : s.moment ≡ t.moment
  pub limit : s.limit ≡ t.limit

-- the same of worlds, of whose stores what is kept is shown
abbrev pub ShowTheSame : ℕ → World → World → Type 0
ShowTheSame floor before after = ShowsTheSame floor (kept before.standing) (kept after.standing)

-- what was below a revision is gone: the number below the revisions that a world's store has is at most one less
abbrev pub HasDropped : ℕ → World → Type 0
HasDropped floor world = floor ≤ (kept world.standing).history.opening.number + 1

-- the revision from which on a store is to be kept: its own, where none is named
abbrev pub asked_floor : Option ℕ → Standing → ℕ
asked_floor None s = now s.history
asked_floor (Some revision) s = revision

-- what a world shows from that revision on
abbrev pub ShowsTheKept : Option ℕ → World → World → Type 0
ShowsTheKept asked before after = ShowTheSame (asked_floor asked (kept before.standing)) before after

-- and that it has nothing below it
abbrev pub HasDroppedTheRest : Option ℕ → World → World → Type 0
HasDroppedTheRest asked before after = HasDropped (asked_floor asked (kept before.standing)) after

-- why a store is not to be kept from a revision on: it is yet to come, or was compacted; or it can be read, and no checkpoint was found
abbrev pub IsAskedToCome : Option ℕ → Standing → Type 0
IsAskedToCome asked s = IsToCome (asked_floor asked s) s

abbrev pub IsAskedCompacted : Option ℕ → Standing → Type 0
IsAskedCompacted asked s = IsCompacted (asked_floor asked s) s

abbrev pub CanBeAsked : Option ℕ → Standing → Type 0
CanBeAsked asked s = CanBeRead (asked_floor asked s) s

-- No runner of a world runs, and no watcher of its store is open: a checkpoint has neither.
pub record IsQuiet (world : World) : Type 0 where
  pub runners : (id : ℕ) → is_some (runner_at id world.runners) ≡ false
  pub watchers : list_any is_some (kept world.standing).watchers ≡ false

-- a file was written anew as one record
pub record IsRewritten (before : World) (file : List ℕ) : Type 0 where
  pub quiet : IsQuiet before
  pub one : HasRecords file 1

-- nothing was below the revision, and the world stays
abbrev pub HasStayed : Option ℕ → World → World → Type 0
HasStayed asked before after = HasDroppedTheRest asked before before × (after ≡ before)

-- The file of a world leads to one that shows the same from a revision on, and has nothing below it: it was written anew, or there was nothing below, and it
-- leads to the world that it led to.
pub record HasCompacted (asked : Option ℕ) (found file : List ℕ) : Type 0 where
  pub before : World
  pub after : World
  pub opens : OpensTo found before
  pub readable : CanBeAsked asked (kept before.standing)
  pub kept : IsKept file after
  pub written : IsRewritten before file ⊎ HasStayed asked before after
  pub shows : ShowsTheKept asked before after
  pub dropped : HasDroppedTheRest asked before after

-- a file opens to a world that shows the same as one in which nothing is under way
abbrev pub OpensCompacted : Option ℕ → World → List ℕ → Type 0
OpensCompacted asked before c = IsQuiet before × ((after : World) × OpensTo c after × ShowsTheKept asked before after)

-- What a crash leaves: a file that opens to the world of the one that was found, or to one that shows the same.
abbrev pub LeavesFoundOrCompacted : Option ℕ → List ℕ → List ℕ → Type 0
LeavesFoundOrCompacted asked found c = OpensAlike found c ⊎ ((before : World) × OpensTo found before × OpensCompacted asked before c)
