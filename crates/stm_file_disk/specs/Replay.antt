-- What the files hold after these calls, and what a crash may leave of them, if the system does what it says.
--
-- POSIX, "write", "ftruncate", "rename", "fdatasync" and "fsync": a write or a cut changes what is in its range and nothing else; a rename gives the
-- name to the new file at once; what was written is on the disk once it was synced, a name once its folder was. That a crash in the midst of a write
-- leaves any bytes in the range is the widest reading of a torn write.
use Rattle.std.specs.Prelude.{◌≡◌, ◌⊎◌, ◌≤◌, ℕ, ◌+◌, Bool, true, false, ◌&&◌, if◌then◌else◌, List, [], ◌∷◌, ◌++◌, length, take, drop}
use Rattle.stm_records.specs.Disk.{Torn, Cut}
use Rattle.stm_file_disk.specs.declared.call.Act.{Act}
use Rattle.stm_file_disk.specs.declared.call.Act.TheVariants.{Opened, Wrote, Cut as CutFile, Synced, WroteNext, SyncedNext, Renamed}
use Rattle.stm_file_disk.specs.Event.{Event}

pub record State : Type 1 where
  -- the file under the name, and what a crash may leave there
  pub seen : List ℕ
  pub may : List ℕ → Type 0
  -- the next file, likewise
  pub next : List ℕ
  pub next_may : List ℕ → Type 0
  pub faults : ℕ
  -- no call has failed
  pub is_usable : Bool

abbrev pub failed : Bool → ℕ → ℕ
failed ok n = if ok then n else n + 1

-- One call. A call that fails may have done any part of its work.
abbrev pub after : Act → ℕ → Bool → List ℕ → State → State
-- after a sync of the file and of its folder, with what was read then: it is noted only where all of that succeeded
after Opened at ok bytes s = record { seen = bytes; may = λ c. c ≡ bytes; next = []; next_may = λ c. Unit {0}; faults = s.faults; is_usable = ok }
after Wrote at ok bytes s = record s { seen = if ok then take at s.seen ++ bytes ++ drop (at + length bytes) s.seen else s.seen; may = λ c. (d : List ℕ) × s.may d × Torn at (length bytes) d c; faults = failed ok s.faults; is_usable = ok && s.is_usable }
after CutFile at ok bytes s = record s { seen = if ok then take at s.seen else s.seen; may = λ c. (d : List ℕ) × s.may d × Cut at d c; faults = failed ok s.faults; is_usable = ok && s.is_usable }
-- the folder too, where the name is new
after Synced at ok bytes s = record s { may = λ c. s.may c × (ok ≡ true → c ≡ s.seen); faults = failed ok s.faults; is_usable = ok && s.is_usable }
after WroteNext at ok bytes s = record s { next = if ok then bytes else s.next; next_may = λ c. Unit {0}; faults = failed ok s.faults; is_usable = ok && s.is_usable }
after SyncedNext at ok bytes s = record s { next_may = λ c. s.next_may c × (ok ≡ true → c ≡ s.next); faults = failed ok s.faults; is_usable = ok && s.is_usable }
after Renamed at ok bytes s = record s { seen = if ok then s.next else s.seen; may = λ c. s.may c ⊎ s.next_may c; faults = failed ok s.faults; is_usable = ok && s.is_usable }

-- after these calls, of which the newest comes first
abbrev pub replay : List Event → State
replay [] = record { seen = []; may = λ c. c ≡ []; next = []; next_may = λ c. Unit {0}; faults = 0; is_usable = false }
replay (e ∷ earlier) = after e.0 e.1 e.2 e.3 (replay earlier)

-- what a crash might have left at some moment since there were t calls
abbrev pub LeftSince : List Event → ℕ → List ℕ → Type 0
LeftSince [] t c = (replay []).may c
LeftSince (e ∷ earlier) t c = (replay (e ∷ earlier)).may c ⊎ ((t ≤ length earlier) × LeftSince earlier t c)
