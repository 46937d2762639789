-- What can be seen of the answers of an attempt at its level: what the attempt does is the same.
use Rattle.std.proofs.Common.{◌≡◌, ℕ, false, List, [], ◌∷◌, ◌++◌, map, Some, slice_get, refl, ap, arith}
use Rattle.std.proofs.lemmas.Bool.Decides.{nat_tests}
use Rattle.stm_history.specs.declared.key_state.ReadAnswer.{ReadAnswer}
use Rattle.stm_history.specs.declared.change.Change.{Change}
use Rattle.stm_history.specs.History.{History}
use Rattle.stm_program.specs.Syntax.{ProgramTree}
use Rattle.stm_program.specs.declared.level.Level.{Level}
use Rattle.stm_program.specs.declared.level.Level.TheVariants.{SerializableSnapshot, Serializable, RepeatableReads, ReadCommitted}
use Rattle.stm_program.specs.Levels.{is_serializable}
use Rattle.stm_steps.specs.declared.run.Run.{Run}
use Rattle.stm_outcome.specs.declared.answer.FailedCompare.{FailedCompare}
use Rattle.stm_outcome.specs.Terms.{Terms}
use Rattle.stm_compile.specs.CommitTxn.{reread_keys}
use Rattle.stm_compile.specs.Conflicts.{seen_by, seen_in}
use Rattle.stm_compile.specs.Committed.{conflict_now, committed}
use Rattle.stm_attempt.specs.Known.{known_of}
use Rattle.stm_attempt.specs.Settled.{run_on}
use Rattle.stm_attempt.specs.Entering.{is_due, gone_on}
use Rattle.stm_attempt.specs.Fetches.{at_of}
use Rattle.stm_entries.specs.Entered.{answers_kept}
use Rattle.stm_events.specs.Replies.{committed_read}
use Rattle.stm_alike.specs.Levelled.{levelled, undated, reported_of, reads_seen}
use Rattle.stm_alike.specs.Seen.{undated_read}
use Rattle.stm_alike.proofs.Levelling.{levelled_again, both_gone_on, same_run, same_due, same_at, fetched_same, mapped_same, same_reread, same_seen, same_commit}
use Rattle.stm_alike.proofs.Undating.{undated_map, gone_alone, undated_attempts_are_same}

-- what holds of answers that are levelled, and, where each key is read as it is now, of undated ones, holds of what can be seen of them
by_seen : (P : List ReadAnswer → Type 0) (level : Level) (prefetched reads : List ReadAnswer) → P (levelled reads) →
    (is_serializable level ≡ false → P (map undated reads)) → P (reads_seen level prefetched reads)
by_seen P level prefetched reads h5 undate = grind (arith, nat_tests)

-- answers that are levelled alike are seen alike
pub seen_level : (level : Level) (prefetched r q : List ReadAnswer) → levelled r ≡ levelled q → reads_seen level prefetched r ≡ reads_seen level prefetched q
seen_level level prefetched r q same = grind (arith, nat_tests, mapped_same)

pub seen_again : (level : Level) (prefetched reads : List ReadAnswer) →
    reads_seen level prefetched (reads_seen level prefetched reads) ≡ reads_seen level prefetched reads
seen_again SerializableSnapshot prefetched reads = levelled_again reads
seen_again Serializable prefetched reads = levelled_again reads
seen_again RepeatableReads [] reads = undated_attempts_are_same.again reads
seen_again RepeatableReads (a ∷ prefetched) reads = levelled_again reads
seen_again ReadCommitted [] reads = undated_attempts_are_same.again reads
seen_again ReadCommitted (a ∷ prefetched) reads = levelled_again reads

-- attempts that are seen alike are seen alike once they went on
pub seen_gone : (level : Level) (program : ProgramTree) (prefetched r q : List ReadAnswer) → reads_seen level prefetched r ≡ reads_seen level prefetched q →
    reads_seen level prefetched (gone_on program (known_of r prefetched)) ≡ reads_seen level prefetched (gone_on program (known_of q prefetched))
seen_gone level program prefetched r q same = grind (arith, nat_tests, both_gone_on, gone_alone)

pub seen_more : (level : Level) (program : ProgramTree) (prefetched reads : List ReadAnswer) (a : ReadAnswer) →
    reads_seen level prefetched (gone_on program (known_of (reads_seen level prefetched reads ++ a ∷ []) prefetched))
    ≡ reads_seen level prefetched (gone_on program (known_of (reads ++ a ∷ []) prefetched))
seen_more SerializableSnapshot program prefetched reads a = fetched_same program prefetched reads a
seen_more Serializable program prefetched reads a = fetched_same program prefetched reads a
seen_more RepeatableReads program [] reads a = undated_attempts_are_same.more program reads a
seen_more RepeatableReads program (b ∷ prefetched) reads a = fetched_same program (b ∷ prefetched) reads a
seen_more ReadCommitted program [] reads a = undated_attempts_are_same.more program reads a
seen_more ReadCommitted program (b ∷ prefetched) reads a = fetched_same program (b ∷ prefetched) reads a

pub seen_run : (level : Level) (program : ProgramTree) (prefetched reads : List ReadAnswer) → run_on program (reads_seen level prefetched reads) ≡ run_on program reads
seen_run level program prefetched reads =
    by_seen (λ xs. run_on program xs ≡ run_on program reads) level prefetched reads (same_run program reads) (λ now. undated_attempts_are_same.run program reads)

pub seen_due : (level : Level) (keys : List (List ℕ)) (prefetched reads : List ReadAnswer) → is_due keys (reads_seen level prefetched reads) ≡ is_due keys reads
seen_due level keys prefetched reads = grind (arith, nat_tests, by_seen, same_due)

pub seen_at : (level : Level) (prefetched reads : List ReadAnswer) → at_of level (reads_seen level prefetched reads) ≡ at_of level reads
seen_at level prefetched reads = grind (arith, nat_tests, by_seen, same_at)

pub seen_reread : (level : Level) (prefetched reads : List ReadAnswer) → reread_keys level (reads_seen level prefetched reads) ≡ reread_keys level reads
seen_reread level prefetched reads = grind (arith, nat_tests, by_seen, same_reread, undated_map)

pub seen_commit : (terms : Terms) (level : Level) (prefetched reads : List ReadAnswer) (run : Run) →
    committed terms level (reads_seen level prefetched reads) run ≡ committed terms level reads run
seen_commit terms level prefetched reads run =
    by_seen (λ xs. committed terms level xs run ≡ committed terms level reads run) level prefetched reads (same_commit terms level reads run)
    (λ now. undated_attempts_are_same.commit terms level reads run now)

pub seen_conflict : (h : History) (level : Level) (prefetched reads : List ReadAnswer) (writes : List Change) (failed : FailedCompare) →
    conflict_now h level reads writes ≡ Some failed →
    reported_of (seen_in (slice_get (seen_by (reads_seen level prefetched reads) writes) failed.index)) ≡ reported_of (seen_in (slice_get (seen_by reads writes) failed.index))
seen_conflict h level prefetched reads writes failed is =
    by_seen (λ xs. reported_of (seen_in (slice_get (seen_by xs writes) failed.index)) ≡ reported_of (seen_in (slice_get (seen_by reads writes) failed.index)))
    level prefetched reads (ap (λ ss. reported_of (seen_in (slice_get ss failed.index))) (same_seen reads writes))
    (λ now. undated_attempts_are_same.conflict h level reads writes failed now is)

-- the reads that a commit at ReadCommitted reports, but for the revisions that they show
pub seen_kept : (level : Level) (prefetched reads : List ReadAnswer) →
    map undated_read (map committed_read (answers_kept level (reads_seen level prefetched reads))) ≡ map undated_read (map committed_read (answers_kept level reads))
seen_kept SerializableSnapshot prefetched reads = refl
seen_kept Serializable prefetched reads = refl
seen_kept RepeatableReads prefetched reads = refl
seen_kept ReadCommitted [] reads = each reads
  where
    each : (xs : List ReadAnswer) → map undated_read (map committed_read (map undated xs)) ≡ map undated_read (map committed_read xs)
    each [] = refl
    each (x ∷ xs) = ap (λ rest. undated_read (committed_read x) ∷ rest) (each xs)
seen_kept ReadCommitted (a ∷ prefetched) reads = ap (map undated_read) (mapped_same committed_read reads (λ n b. refl))
