-- The transaction that commits an attempt.
--
-- The documentation and source of the Go package `clientv3/concurrency`, "STM": the compares are those of the keys read, by
-- their modification revisions, and at serializable snapshot those of the keys written; the success list has the writes; the
-- failure list reads the read keys again, where the next attempt can use them. The order of compares and writes is a Go map's
-- there; here it is that of first reads and first writes. This store's own choices are also the bound `first + 1` of a
-- written key's compare and the number that stands for `first` where nothing was read.
use Rattle.std.specs.Prelude.{ℕ, ◌+◌, min, if◌then◌else◌, List, [], ◌∷◌, ◌++◌, map, fold}
use Rattle.stm_history.specs.declared.key_state.ReadAnswer.{ReadAnswer}
use Rattle.stm_history.specs.declared.revisions.TheConstants.{HIGHEST_REVISION}
use Rattle.stm_history.specs.History.{mod_of, key_of}
use Rattle.stm_program.specs.declared.level.Level.{Level}
use Rattle.stm_program.specs.declared.level.Level.TheVariants.{SerializableSnapshot, Serializable, RepeatableReads, ReadCommitted}
use Rattle.stm_history.specs.declared.change.Change.{Change}
use Rattle.stm_outcome.specs.declared.txn.Txn.{Txn}
use Rattle.stm_outcome.specs.declared.txn.Compare.{Compare}
use Rattle.stm_outcome.specs.Commits.{mod_is, mod_is_below, read_now}
use Rattle.stm_outcome.specs.Effect.{op_of}
use Rattle.stm_program.specs.Levels.{is_serializable}

-- the least store revision that the answers carry; the highest one where nothing was read
abbrev pub first_carried : List ReadAnswer → ℕ
first_carried [] = HIGHEST_REVISION
first_carried (a ∷ answers) = fold (λ least b. min least b.revision) a.revision answers

-- "the key is as it was read", an absent one too: by its modification revision, never by its version
abbrev pub is_as_read : ReadAnswer → Compare
is_as_read a = mod_is a.key (mod_of a.kv)

-- "the written key was not modified above `first`"
abbrev pub is_unmodified : ℕ → Change → Compare
is_unmodified first w = mod_is_below (key_of w) (first + 1)

-- what a commit compares
abbrev pub compares_of : Level → List ReadAnswer → List Change → List Compare
compares_of SerializableSnapshot reads writes = map is_as_read reads ++ map (is_unmodified (first_carried reads)) writes
compares_of Serializable reads writes = map is_as_read reads
compares_of RepeatableReads reads writes = map is_as_read reads
compares_of ReadCommitted reads writes = []

-- the keys that a failed commit reads again: those read, where the next attempt can use them
abbrev pub reread_keys : Level → List ReadAnswer → List (List ℕ)
reread_keys level reads = if is_serializable level then map (λ a. a.key) reads else []

-- the transaction of an attempt that has read this, and whose latest writes are these
abbrev pub commit_of : Level → List ReadAnswer → List Change → Txn
commit_of level reads writes = record {
  compares = compares_of level reads writes;
  success = map op_of writes;
  failure = map read_now (reread_keys level reads);
}
