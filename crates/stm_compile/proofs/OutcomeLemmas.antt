-- What a commit's transaction comes to.
use Rattle.std.proofs.Common.{◌≡◌, ℕ, ◌+◌, ◌<◌, List, [], ◌∷◌, ◌++◌, map, filter, length, Bool, true, false, cond, Option, None, Some, Err}
use Rattle.std.proofs.Common.{refl, ◌∙◌, ap, arith, length-append}
use Rattle.std.proofs.lemmas.List.{length-map}
use Rattle.std.proofs.lemmas.Bool.{lt-ltb, le-ltb, ltb-true}
use Rattle.std.specs.Prelude.{bytes_eq, nat_lt, ◌||◌, Result}
use Rattle.std.specs.List.{IsDistinct, AllByRecursion}
use Rattle.std.proofs.lemmas.List.Elements.{recursion_from_All}
use Rattle.stm_history.specs.declared.change.Change.{Change}
use Rattle.stm_history.specs.declared.key_state.ReadAnswer.{ReadAnswer}
use Rattle.stm_history.specs.History.{History, now, key_now, key_of, change_of, HasDistinctKeys}
use Rattle.stm_history.proofs.HistoryLaws.{last_revision_is_now}
use Rattle.stm_program.specs.declared.level.Level.{Level}
use Rattle.stm_program.specs.declared.level.Level.TheVariants.{SerializableSnapshot, Serializable, RepeatableReads, ReadCommitted}
use Rattle.stm_history.specs.declared.change.Change.TheVariants.{Put, Del}
use Rattle.stm_program.specs.Writes.{latest_writes}
use Rattle.stm_program.proofs.WriteLemmas.{bytes_eq-flip}
use Rattle.stm_program.proofs.LatestLemmas.{latest_writes-distinct}
use Rattle.stm_meaning.specs.Writes.{changes, effect}
use Rattle.stm_steps.specs.declared.run.Run.{Run}
use Rattle.stm_outcome.specs.declared.txn.Compare.{Compare}
use Rattle.stm_outcome.specs.declared.answer.FailedCompare.{FailedCompare}
use Rattle.stm_outcome.specs.declared.answer.OpAnswer.TheVariants.{Get as GetAnswer}
use Rattle.stm_outcome.specs.declared.refusal.Refusal.{Refusal}
use Rattle.stm_outcome.specs.declared.refusal.Refusal.TheVariants.{TooManyOps}
use Rattle.stm_outcome.specs.Checks.{has_too_many, fault_of}
use Rattle.stm_outcome.specs.Effect.{op_of}
use Rattle.stm_outcome.specs.Outcome.{Done, outcome, chosen, unless, branch_outcome}
use Rattle.stm_outcome.specs.Compares.{first_failed}
use Rattle.stm_outcome.specs.Commits.{read_now, AreNamed, effective, shown, reads_now}
use Rattle.stm_outcome.specs.Terms.{Terms}
use Rattle.stm_outcome.proofs.Applying.{writes_apply, failed_compare_reads, number_alone_is_wrong}
use Rattle.stm_compile.specs.Answers.{answer_now}
use Rattle.stm_compile.specs.Now.{is_present}
use Rattle.stm_compile.specs.CommitTxn.{first_carried, is_as_read, is_unmodified, compares_of, reread_keys, commit_of}
use Rattle.stm_compile.specs.Committed.{compared, sends_too_many, conflict_now, judged}
use Rattle.stm_compile.specs.Laws.{CommitComesTo, AppliedIsEffect, FailedCommitRereads, CommitHasNoFloor}
use Rattle.stm_compile.proofs.AgreeLemmas.{now_are_true}

-- ---- what a commit changes

other_by : (b : Bool) (c : Change) (rest : Option Change) → b ≡ false → rest ≡ None → cond b (Some c) rest ≡ None
other_by true c rest p e = absurd (cc)
other_by false c rest p e = e

-- a key of which there is no write has no change
no_change : (key : List ℕ) (ws : List Change) → AllByRecursion (λ l. bytes_eq key l ≡ false) (map key_of ws) → change_of key ws ≡ None
no_change key [] others = refl
no_change key (w ∷ ws) others =
    other_by (bytes_eq (key_of w) key) w (change_of key ws) (bytes_eq-flip (key_of w) key ∙ others.0) (no_change key ws others.1)

pub changes_are_distinct : (ws : List Change) → IsDistinct bytes_eq (map key_of ws) → HasDistinctKeys ws
unfolding IsDistinct
changes_are_distinct [] distinct = tt
changes_are_distinct (w ∷ ws) distinct = (no_change (key_of w) ws distinct.0, changes_are_distinct ws distinct.1)

-- what is applied is the effect
effective_is_effect : (h : History) (ws : List Change) → effective h ws ≡ filter (changes (is_present h)) ws
effective_is_effect h [] = refl
effective_is_effect h (Put key value lease ∷ ws) = ap (λ l. Put key value lease ∷ l) (effective_is_effect h ws)
effective_is_effect h (Del key ∷ ws) = ap (λ l. cond (is_present h key) (Del key ∷ l) l) (effective_is_effect h ws)

pub applied_is_effect : AppliedIsEffect
unfolding effect
applied_is_effect h writes = effective_is_effect h (latest_writes writes)

-- ---- names

named_writes : (ws : List Change) → AllByRecursion (λ w. 0 < length (key_of w)) ws → AreNamed (map key_of ws)
named_writes [] named = tt
named_writes (w ∷ ws) named = (named.0, named_writes ws named.1)

named_reads : (reads : List ReadAnswer) → AllByRecursion (λ (a : ReadAnswer). 0 < length a.key) reads → AreNamed (map (λ (a : ReadAnswer). a.key) reads)
named_reads [] named = tt
named_reads (a ∷ reads) named = (named.0, named_reads reads named.1)

named_compares : (reads : List ReadAnswer) (others : List Compare) → AllByRecursion (λ (a : ReadAnswer). 0 < length a.key) reads →
    AreNamed (map (λ (c : Compare). c.key) others) → AreNamed (map (λ (c : Compare). c.key) (map is_as_read reads ++ others))
named_compares [] others named rest = rest
named_compares (a ∷ reads) others named rest = (named.0, named_compares reads others named.1 rest)

named_read_compares : (reads : List ReadAnswer) → AllByRecursion (λ (a : ReadAnswer). 0 < length a.key) reads →
    AreNamed (map (λ (c : Compare). c.key) (map is_as_read reads))
named_read_compares [] named = tt
named_read_compares (a ∷ reads) named = (named.0, named_read_compares reads named.1)

named_write_compares : (first : ℕ) (ws : List Change) → AllByRecursion (λ w. 0 < length (key_of w)) ws →
    AreNamed (map (λ (c : Compare). c.key) (map (is_unmodified first) ws))
named_write_compares first [] named = tt
named_write_compares first (w ∷ ws) named = (named.0, named_write_compares first ws named.1)

compares_are_named : (level : Level) (reads : List ReadAnswer) (ws : List Change) → AllByRecursion (λ (a : ReadAnswer). 0 < length a.key) reads →
    AllByRecursion (λ w. 0 < length (key_of w)) ws → AreNamed (map (λ (c : Compare). c.key) (compares_of level reads ws))
compares_are_named SerializableSnapshot reads ws reads_named writes_named =
    named_compares reads (map (is_unmodified (first_carried reads)) ws) reads_named (named_write_compares (first_carried reads) ws writes_named)
compares_are_named Serializable reads ws reads_named writes_named = named_read_compares reads reads_named
compares_are_named RepeatableReads reads ws reads_named writes_named = named_read_compares reads reads_named
compares_are_named ReadCommitted reads ws reads_named writes_named = tt

rereads_are_named : (level : Level) (reads : List ReadAnswer) → AllByRecursion (λ (a : ReadAnswer). 0 < length a.key) reads →
    AreNamed (reread_keys level reads)
rereads_are_named SerializableSnapshot reads named = named_reads reads named
rereads_are_named Serializable reads named = named_reads reads named
rereads_are_named RepeatableReads reads named = tt
rereads_are_named ReadCommitted reads named = tt

-- ---- numbers

-- more compares, writes or reads of a failure list than the limit, by their numbers
too_many_by : ℕ → ℕ → ℕ → ℕ → Bool
too_many_by limit compares writes rereads = nat_lt limit compares || nat_lt limit writes || nat_lt limit rereads

same_too : (a b : Bool) → (a || b || a) ≡ (a || b)
same_too true true = refl
same_too true false = refl
same_too false true = refl
same_too false false = refl

none_too : (a b : Bool) → (a || b || false) ≡ (a || b)
none_too true true = refl
none_too true false = refl
none_too false true = refl
none_too false false = refl

third_within : (a b c : Bool) → (c ≡ true → a ≡ true) → (a || b || c) ≡ (a || b)
third_within true true c within = refl
third_within true false c within = refl
third_within false true c within = refl
third_within false false true within = absurd (let e : false ≡ true = within refl in cc)
third_within false false false within = refl

sum_is_above : (limit m n : ℕ) → nat_lt limit m ≡ true → nat_lt limit (m + n) ≡ true
sum_is_above limit m n above = lt-ltb limit (m + n) (let more : limit < m = ltb-true limit m above in omega arith)

-- how many reads a failure list has
rereads : Level → ℕ → ℕ
rereads SerializableSnapshot n = n
rereads Serializable n = n
rereads RepeatableReads n = 0
rereads ReadCommitted n = 0

length_of_compares : (level : Level) (reads : List ReadAnswer) (ws : List Change) →
    length (compares_of level reads ws) ≡ compared level (length reads) (length ws)
length_of_compares SerializableSnapshot reads ws =
    length-append (map is_as_read reads) (map (is_unmodified (first_carried reads)) ws)
    ∙ ap (λ n. n + length (map (is_unmodified (first_carried reads)) ws)) (length-map reads is_as_read)
    ∙ ap (λ n. length reads + n) (length-map ws (is_unmodified (first_carried reads)))
length_of_compares Serializable reads ws = length-map reads is_as_read
length_of_compares RepeatableReads reads ws = length-map reads is_as_read
length_of_compares ReadCommitted reads ws = refl

length_of_rereads : (level : Level) (reads : List ReadAnswer) → length (reread_keys level reads) ≡ rereads level (length reads)
unfolding rereads
length_of_rereads SerializableSnapshot reads = length-map reads (λ (a : ReadAnswer). a.key)
length_of_rereads Serializable reads = length-map reads (λ (a : ReadAnswer). a.key)
length_of_rereads RepeatableReads reads = refl
length_of_rereads ReadCommitted reads = refl

by_level : (limit : ℕ) (level : Level) (reads writes : ℕ) → too_many_by limit (compared level reads writes) writes (rereads level reads)
    ≡ (nat_lt limit (compared level reads writes) || nat_lt limit writes)
unfolding rereads too_many_by
by_level limit SerializableSnapshot reads writes =
    third_within (nat_lt limit (reads + writes)) (nat_lt limit writes) (nat_lt limit reads) (sum_is_above limit reads writes)
by_level limit Serializable reads writes = same_too (nat_lt limit reads) (nat_lt limit writes)
by_level limit RepeatableReads reads writes =
    ap (λ b. nat_lt limit reads || nat_lt limit writes || b) (le-ltb limit 0 (omega arith)) ∙ none_too (nat_lt limit reads) (nat_lt limit writes)
by_level limit ReadCommitted reads writes = same_too (nat_lt limit 0) (nat_lt limit writes)

pub too_many_is : (limit : ℕ) (level : Level) (reads : List ReadAnswer) (ws : List Change) →
    has_too_many limit (commit_of level reads ws) ≡ sends_too_many limit level reads ws
unfolding too_many_by
too_many_is limit level reads ws =
    let more : ℕ → Bool = nat_lt limit in
    ap (λ n. more n || more (length (map op_of ws)) || more (length (map read_now (reread_keys level reads))))
    (length_of_compares level reads ws)
    ∙ ap (λ n. more (compared level (length reads) (length ws)) || more n || more (length (map read_now (reread_keys level reads))))
    (length-map ws op_of)
    ∙ ap (λ n. more (compared level (length reads) (length ws)) || more (length ws) || more n)
    (length-map (reread_keys level reads) read_now ∙ length_of_rereads level reads)
    ∙ by_level limit level (length reads) (length ws)

-- ---- the outcome

-- nothing of the whole transaction is wrong but its number
fault_is : (limit : ℕ) (level : Level) (reads : List ReadAnswer) (ws : List Change) → IsDistinct bytes_eq (map key_of ws) →
    AllByRecursion (λ (a : ReadAnswer). 0 < length a.key) reads → AllByRecursion (λ w. 0 < length (key_of w)) ws →
    fault_of limit (commit_of level reads ws) ≡ cond (sends_too_many limit level reads ws) (Some TooManyOps) None
fault_is limit level reads ws distinct reads_named writes_named =
    number_alone_is_wrong limit (commit_of level reads ws) ws (reread_keys level reads) refl refl
    (changes_are_distinct ws distinct) (compares_are_named level reads ws reads_named writes_named) (named_writes ws writes_named)
    (rereads_are_named level reads reads_named)
    ∙ ap (λ b. cond b (Some TooManyOps) None) (too_many_is limit level reads ws)

judged_is : (terms : Terms) (level : Level) (reads : List ReadAnswer) (run : Run) (failed : Option FailedCompare) →
    fault_of terms.limit (commit_of level reads (latest_writes run.writes)) ≡ None →
    conflict_now terms.history level reads (latest_writes run.writes) ≡ failed →
    outcome terms (commit_of level reads (latest_writes run.writes)) ≡ judged terms level reads run failed
judged_is terms level reads run None right found =
    writes_apply terms (commit_of level reads (latest_writes run.writes)) (latest_writes run.writes)
    refl (changes_are_distinct (latest_writes run.writes) (latest_writes-distinct run.writes)) right found
judged_is terms level reads run (Some failed) right found =
    failed_compare_reads terms (commit_of level reads (latest_writes run.writes)) (reread_keys level reads) failed refl right found

committed_by : (terms : Terms) (level : Level) (reads : List ReadAnswer) (run : Run) (b : Bool) →
    fault_of terms.limit (commit_of level reads (latest_writes run.writes)) ≡ cond b (Some TooManyOps) None →
    outcome terms (commit_of level reads (latest_writes run.writes))
    ≡ cond b (Err TooManyOps) (judged terms level reads run (conflict_now terms.history level reads (latest_writes run.writes)))
committed_by terms level reads run true fault =
    let txn = commit_of level reads (latest_writes run.writes) in
    let failed : Option FailedCompare = first_failed (key_now terms.history) 0 txn.compares in
    ap (λ (f : Option Refusal). unless f (branch_outcome terms failed (chosen failed txn))) fault
committed_by terms level reads run false fault =
    judged_is terms level reads run (conflict_now terms.history level reads (latest_writes run.writes)) fault refl

pub commit_comes_to : CommitComesTo
commit_comes_to terms level reads run reads_named writes_named =
    let ws = latest_writes run.writes in
    committed_by terms level reads run (sends_too_many terms.limit level reads ws)
    (fault_is terms.limit level reads ws (latest_writes-distinct run.writes)
    (recursion_from_All (λ (a : ReadAnswer). 0 < length a.key) reads reads_named)
    (recursion_from_All (λ w. 0 < length (key_of w)) ws writes_named))

-- ---- at every floor

judged_at : (terms : Terms) (floor : ℕ) (level : Level) (reads : List ReadAnswer) (run : Run) (failed : Option FailedCompare) →
    judged (record terms { floor = floor }) level reads run failed ≡ judged terms level reads run failed
judged_at terms floor level reads run None = refl
judged_at terms floor level reads run (Some failed) = refl

pub commit_has_no_floor : CommitHasNoFloor
commit_has_no_floor terms floor level reads run =
    ap (λ (o : Result Done Refusal). cond (sends_too_many terms.limit level reads (latest_writes run.writes)) (Err TooManyOps) o)
    (judged_at terms floor level reads run (conflict_now terms.history level reads (latest_writes run.writes)))

-- ---- what a failed commit reports

shown_now : (h : History) (keys : List (List ℕ)) → map (shown h) (reads_now keys) ≡ map (λ a. GetAnswer a) (map (answer_now h) keys)
shown_now h [] = refl
shown_now h (key ∷ keys) =
    ap (λ kv. GetAnswer (record { key = key; kv = kv; of_rev = now h; revision = now h }) ∷ map (shown h) (reads_now keys))
    (last_revision_is_now h key (now h) (omega arith))
    ∙ ap (λ l. GetAnswer (answer_now h key) ∷ l) (shown_now h keys)

pub failed_commit_rereads : FailedCommitRereads
failed_commit_rereads h level reads failed = record {
  reported = shown_now h (reread_keys level reads);
  true_now = now_are_true h (reread_keys level reads);
  unchanged = refl;
}
