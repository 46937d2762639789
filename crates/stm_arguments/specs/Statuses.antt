-- The status of a command line that is refused, or asks for help or the version.
use Rattle.std.specs.Prelude.{◌≡◌, ◌⊎◌, ℕ}
use Rattle.clap.specs.declared.error.kind.ErrorKind.{ErrorKind}
use Rattle.clap.specs.declared.error.kind.ErrorKind.TheVariants.{DisplayHelp, DisplayVersion, OutOfMemory}

-- 0 for help and the version, 3 where memory ran out and 2 for usage
abbrev pub status_of_kind : ErrorKind → ℕ
status_of_kind DisplayHelp = 0
status_of_kind DisplayVersion = 0
status_of_kind OutOfMemory = 3
status_of_kind _ = 2

-- the status of a fault of this kind: for help and the version also 3, where it could not be printed
abbrev pub IsReportedBy : ErrorKind → ℕ → Type 0
IsReportedBy kind status = (status ≡ status_of_kind kind) ⊎ (((kind ≡ DisplayHelp) ⊎ (kind ≡ DisplayVersion)) × (status ≡ 3))
