-- At which revision an attempt fetches.
--
-- The documentation of the Go package `clientv3/concurrency`, "Isolation": at serializable snapshot and serializable all reads
-- of an attempt are of the revision of its first read; at repeatable reads and read committed each is of the current one. That
-- a `rev` of a written key is a first read like any other is our own.
use Rattle.std.specs.Prelude.{◌≡◌, ◌≤◌, ℕ, if◌then◌else◌, List, [], ◌∷◌}
use Rattle.stm_history.specs.declared.key_state.ReadAnswer.{ReadAnswer}
use Rattle.stm_program.specs.declared.level.Level.{Level}
use Rattle.stm_program.specs.Levels.{is_serializable}

-- the base revision, the one that the first read shows; 0, which names the current revision, before a first read
abbrev pub base_of : List ReadAnswer → ℕ
base_of [] = 0
base_of (first ∷ reads) = first.of_rev

-- the revision that the next fetch names
abbrev pub at_of : Level → List ReadAnswer → ℕ
at_of level reads = if is_serializable level then base_of reads else 0

-- ---- answers of one revision

abbrev pub AllShow : ℕ → List ReadAnswer → Type 0
AllShow revision [] = Unit {0}
AllShow revision (a ∷ answers) = (a.of_rev ≡ revision) × AllShow revision answers

-- all show the revision that the first one shows
abbrev pub ShowOneRevision : List ReadAnswer → Type 0
ShowOneRevision [] = Unit {0}
ShowOneRevision (first ∷ rest) = AllShow first.of_rev rest

-- All show one revision, and that is no 0: a base of 0 would be read as "current". No store's counter is 0.
abbrev pub HaveOneBase : List ReadAnswer → Type 0
HaveOneBase [] = Unit {0}
HaveOneBase (first ∷ rest) = (1 ≤ first.of_rev) × AllShow first.of_rev rest
