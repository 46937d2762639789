-- What a command that reads one source and writes one sink has seen of them at its end.
use Rattle.std.specs.Prelude.{◌≡◌, ℕ, List, Bool, false, Option}
use Rattle.std.specs.Io.KnownBytes.{Keeps}

-- the devices at the end: what was left of the source before, what the sink held before and holds, and whether each has failed
pub record Devices : Type 0 where
  pub input : Option (List ℕ)
  pub before : Option (List ℕ)
  pub after : Option (List ℕ)
  pub source_failed : Bool
  pub sink_failed : Bool

-- nothing was written, and nothing failed
abbrev pub IsUntouched : Devices → Type 0
IsUntouched d = (d.source_failed ≡ false) × (d.sink_failed ≡ false) × Keeps d.before d.after
