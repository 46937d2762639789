-- What the four levels have in common, and in which they differ.
--
-- The documentation of the Go package `clientv3/concurrency`, "Isolation": serializable snapshot compares the keys read and
-- the keys written; serializable and repeatable reads compare the keys read; read committed compares nothing. The reads of an
-- attempt at the first two are of one revision.
use Rattle.std.specs.Prelude.{Bool, true, false}
use Rattle.stm_program.specs.declared.level.Level.{Level}
use Rattle.stm_program.specs.declared.level.Level.TheVariants.{SerializableSnapshot, Serializable, RepeatableReads, ReadCommitted}

-- a commit at this level compares what was read
abbrev pub is_comparing : Level → Bool
is_comparing SerializableSnapshot = true
is_comparing Serializable = true
is_comparing RepeatableReads = true
is_comparing ReadCommitted = false

-- all reads of an attempt at this level are of one revision
abbrev pub is_serializable : Level → Bool
is_serializable SerializableSnapshot = true
is_serializable Serializable = true
is_serializable RepeatableReads = false
is_serializable ReadCommitted = false
