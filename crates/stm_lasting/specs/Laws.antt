-- The laws of files of scenarios, each carried by a function of `src/laws.rt`.
use Rattle.std.specs.Prelude.{◌≡◌, ◌⊎◌, ℕ, ◌<◌, ◌^◌, List, length}
use Rattle.stm_world.specs.World.{World}
use Rattle.stm_records.specs.RecordFiles.{NoChance, OpensAlike}
use Rattle.stm_lasting.specs.Kept.{IsKept, OpensTo, IsWorldBeforeOrAfter}

-- A file opens to one world.
abbrev pub OpensToOne : Type 0
OpensToOne = (file : List ℕ) (world other : World) → length file < 2 ^ 64 → OpensTo file world → OpensTo file other → world ≡ other

-- A world was kept, one more text was in flight, a crash came, and the file was opened: the world is the one that was kept, or the one after the text.
abbrev pub ServesTheKept : Type 0
ServesTheKept =
    (file text c : List ℕ) (before after served : World) → length c < 2 ^ 64 → IsKept file before → IsWorldBeforeOrAfter file text after c
    → NoChance file text c → OpensTo c served → (served ≡ before) ⊎ (served ≡ after)

-- What opens to whatever records a file opens to opens to its world.
abbrev pub OpensToTheSame : Type 0
OpensToTheSame = (file c : List ℕ) (world : World) → OpensAlike file c → OpensTo file world → OpensTo c world
