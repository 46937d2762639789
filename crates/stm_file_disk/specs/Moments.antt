-- The moments of a record of calls: two laws of the trait of disks.
use Rattle.std.specs.Prelude.{ℕ, List, [], ◌∷◌, length}
use Rattle.std.specs.Cmp.{below_irrefl}
use Rattle.std.proofs.Common.{inl, inr}
use Rattle.stm_file_disk.specs.Event.{Event}
use Rattle.stm_file_disk.specs.Replay.{replay, LeftSince}

-- this moment is one of those since an earlier one
pub counts : (events : List Event) (t : ℕ) (c : List ℕ) → (replay events).may c → LeftSince events t c
counts [] t c now = now
counts (e ∷ earlier) t c now = inl now

-- since this moment there is no other
pub only : (events : List Event) (c : List ℕ) → LeftSince events (length events) c → (replay events).may c
only [] c left = left
only (e ∷ earlier) c (inl now) = now
only (e ∷ earlier) c (inr past) = absurd (below_irrefl (length earlier) past.0)
