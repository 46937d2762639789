-- What a runner has to do, what it knows, and how its attempts go on.
--
-- The Go package `concurrency`, "STM": a program is run at a level, and again after a failed commit, whose answers the next
-- attempt may use; and `WithPrefetch`: the keys of a list are read at the start of each attempt. That a run may send at most `limit` commits is
-- our own.
use Rattle.std.specs.Prelude.{ℕ, List, [], ◌∷◌, ◌++◌, map}
use Rattle.stm_history.specs.declared.key_state.ReadAnswer.{ReadAnswer}
use Rattle.stm_history.specs.History.{History, now, key_at, key_now, mod_of}
use Rattle.stm_program.specs.Syntax.{ProgramTree}
use Rattle.stm_program.specs.declared.level.Level.{Level}
use Rattle.stm_compile.specs.Answers.{answer_now}
use Rattle.stm_compile.specs.CommitTxn.{reread_keys}
use Rattle.stm_attempt.specs.Known.{Known}
use Rattle.stm_events.specs.declared.reply.KeyRead.{KeyRead}
use Rattle.stm_attempt.specs.Entering.{gone_on}

-- a program, the level that it commits at, and how many commits its run may send
pub record Task : Type 0 where
  pub program : ProgramTree
  pub level : Level
  pub limit : ℕ

-- what an attempt knows before its first read, where nothing was prefetched
abbrev pub nothing_known : Known
nothing_known = record { reads = []; prefetched = [] }

-- the answer to a read of a key at a revision that the store has reached
abbrev pub answer_at : History → List ℕ → ℕ → ReadAnswer
answer_at h key r = record { key = key; kv = key_at h key r; of_rev = r; revision = now h }

-- what is reported of the read of a key as it is now: its modification revision
abbrev pub modified_now : History → List ℕ → KeyRead
modified_now h key = record { key = key; mod_rev = mod_of (key_now h key) }

-- what an attempt knows once it went on: it has taken its list, where all of it was prefetched, and every prefetched answer that its program
-- wants and that serves
abbrev pub with_served : Task → Known → Known
with_served task known = record { reads = gone_on task.program known; prefetched = known.prefetched }

-- what an attempt knows after a fetch: what it had read, and the answer; and what serves then is taken
abbrev pub after_fetch : Task → ReadAnswer → Known → Known
after_fetch task a known = with_served task (record { reads = known.reads ++ a ∷ []; prefetched = known.prefetched })

-- what an attempt knows once its list was fetched, and what serves then is taken
abbrev pub after_list : Task → History → Known → Known
after_list task h known = with_served task (record { reads = map (answer_now h) task.program.prefetch; prefetched = known.prefetched })

-- what the next attempt knows after a conflict: nothing is read yet, and at the serializable levels the keys that were read are
-- prefetched as they are now; what serves is taken
abbrev pub after_conflict : Task → History → Known → Known
after_conflict task h known =
    with_served task (record { reads = []; prefetched = map (answer_now h) (reread_keys task.level known.reads) })
