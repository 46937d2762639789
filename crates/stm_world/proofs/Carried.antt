-- What an attempt at ReadCommitted knows is of the moment that it was read at, so that a commit reports the whole of it.
use Rattle.std.proofs.Common.{◌≡◌, List, [], ◌∷◌, ◌++◌, ℕ, map, false, cond, refl, sym, ap, arith}
use Rattle.std.specs.List.{AllByRecursion}
use Rattle.std.proofs.lemmas.Bool.Decides.{nat_tests}
use Rattle.stm_history.specs.declared.key_state.ReadAnswer.{ReadAnswer}
use Rattle.stm_history.specs.History.{History, now, IsTrueAnswer}
use Rattle.stm_program.specs.declared.level.Level.{Level}
use Rattle.stm_program.specs.Levels.{is_comparing, is_serializable}
use Rattle.stm_outcome.specs.Commits.{revision_read}
use Rattle.stm_compile.specs.Answers.{AreTrue, answer_now}
use Rattle.stm_compile.specs.CommitTxn.{reread_keys}
use Rattle.stm_attempt.specs.Known.{Known}
use Rattle.stm_attempt.specs.Fetches.{base_of, at_of}
use Rattle.stm_entries.specs.Entered.{answers_kept}
use Rattle.stm_events.specs.Replies.{committed_read, read_in, reads_in}
use Rattle.stm_world.specs.Task.{Task, answer_at, after_list, after_fetch, after_conflict}
use Rattle.stm_world.proofs.Served.{KnowsAll, one_more, served_all}

-- the revision that an answer shows is that of the store when it was read
abbrev pub IsOfItsMoment : ReadAnswer → Type 0
IsOfItsMoment a = a.revision ≡ a.of_rev

-- at ReadCommitted every known answer is so
abbrev pub IsCurrent : Task → Known → Type 0
IsCurrent task known = is_comparing task.level ≡ false → KnowsAll IsOfItsMoment known

-- ---- it stays so

not_serializable : (level : Level) → is_comparing level ≡ false → is_serializable level ≡ false
not_serializable level is = grind (arith, nat_tests)

-- a fetch is of the current revision
fetched_now : (h : History) (level : Level) (reads : List ReadAnswer) → is_serializable level ≡ false → revision_read h (at_of level reads) ≡ now h
fetched_now h level reads not = ap (λ b. revision_read h (cond b (base_of reads) 0)) not

all_now : (h : History) (keys : List (List ℕ)) → AllByRecursion IsOfItsMoment (map (answer_now h) keys)
all_now h [] = tt
all_now h (key ∷ keys) = (refl, all_now h keys)

pub fetch_current : (task : Task) (h : History) (key : List ℕ) (known : Known) → IsCurrent task known →
    IsCurrent task (after_fetch task (answer_at h key (revision_read h (at_of task.level known.reads))) known)
fetch_current task h key known current committed =
    let before : KnowsAll IsOfItsMoment known = current committed in
    let a : ReadAnswer = answer_at h key (revision_read h (at_of task.level known.reads)) in
    served_all IsOfItsMoment task (record { reads = known.reads ++ a ∷ []; prefetched = known.prefetched }) (
      one_more IsOfItsMoment known.reads a before.0 (sym (fetched_now h task.level known.reads (not_serializable task.level committed))),
      before.1,
    )

pub list_current : (task : Task) (h : History) (known : Known) → IsCurrent task known → IsCurrent task (after_list task h known)
list_current task h known current committed =
    served_all IsOfItsMoment task (record { reads = map (answer_now h) task.program.prefetch; prefetched = known.prefetched })
    (all_now h task.program.prefetch, (current committed).1)

pub conflict_current : (task : Task) (h : History) (known : Known) → IsCurrent task (after_conflict task h known)
conflict_current task h known committed =
    let keys : List (List ℕ) = reread_keys task.level known.reads in
    served_all IsOfItsMoment task (record { reads = []; prefetched = map (answer_now h) keys }) (tt, all_now h keys)

-- ---- a reported answer is the answer that was read

read_again : (h : History) (a : ReadAnswer) → IsTrueAnswer h a → IsOfItsMoment a → read_in h (committed_read a) ≡ a
read_again h a truth current = grind (arith, nat_tests)

reads_again : (h : History) (reads : List ReadAnswer) → AreTrue h reads → AllByRecursion IsOfItsMoment reads →
    reads_in h (map committed_read reads) ≡ reads
reads_again h [] truth current = refl
reads_again h (a ∷ reads) truth current = grind (arith, nat_tests, read_again, reads_again h reads truth.1 current.1)

-- what a commit reports of its answers, read in the history before it, is what is kept of them
pub kept_again : (h : History) (task : Task) (known : Known) → AreTrue h known.reads → IsCurrent task known →
    reads_in h (map committed_read (answers_kept task.level known.reads)) ≡ answers_kept task.level known.reads
kept_again h task known truth current = grind (arith, nat_tests, reads_again)
