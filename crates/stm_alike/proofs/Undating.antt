-- Answers without the revisions that they show and carry: what an attempt does that reads each key as it is now is the same.
use Rattle.std.proofs.Common.{◌≡◌, ℕ, suc, ◌+◌, Bool, true, false, cond, List, [], ◌∷◌, ◌++◌, length, map, Option, Some, option_map, slice_get, refl, sym, ◌∙◌, ap, arith}
use Rattle.std.proofs.lemmas.Bool.Decides.{nat_tests}
use Rattle.stm_history.specs.declared.key_state.ReadAnswer.{ReadAnswer}
use Rattle.stm_history.specs.declared.key_state.KeyState.{KeyState}
use Rattle.stm_history.specs.declared.change.Change.{Change}
use Rattle.stm_history.specs.History.{History, key_now, mod_of}
use Rattle.stm_program.specs.Syntax.{ProgramTree}
use Rattle.stm_program.specs.declared.level.Level.{Level}
use Rattle.stm_program.specs.declared.level.Level.TheVariants.{SerializableSnapshot, Serializable, RepeatableReads, ReadCommitted}
use Rattle.stm_program.specs.Levels.{is_serializable}
use Rattle.stm_steps.specs.declared.run.Run.{Run}
use Rattle.stm_outcome.specs.declared.answer.FailedCompare.{FailedCompare}
use Rattle.stm_outcome.specs.Compares.{holds, first_failed}
use Rattle.stm_outcome.specs.Terms.{Terms}
use Rattle.stm_compile.specs.Answers.{answer_in, said}
use Rattle.stm_compile.specs.CommitTxn.{first_carried, is_as_read, reread_keys}
use Rattle.stm_compile.specs.Conflicts.{Seen, seen_by, seen_in, seen_of_read, seen_of_write}
use Rattle.stm_compile.specs.Committed.{conflict_now, committed}
use Rattle.stm_attempt.specs.Known.{known_of}
use Rattle.stm_attempt.specs.Settled.{run_on, settle}
use Rattle.stm_attempt.specs.Entering.{is_due, gone_on}
use Rattle.stm_attempt.specs.Fetches.{at_of}
use Rattle.stm_alike.specs.Levelled.{undated, reported_of, UndatedAttemptsAreSame}
use Rattle.stm_alike.proofs.Levelling.{commit_by}

pub undated_map : {B : Type 0} (f : ReadAnswer → B) (reads : List ReadAnswer) → ((a : ReadAnswer) → f (undated a) ≡ f a) → map f (map undated reads) ≡ map f reads
undated_map f [] same = refl
undated_map {B} f (x ∷ xs) same = ap (λ (y : B). y ∷ map f (map undated xs)) (same x) ∙ ap (λ (ys : List B). f x ∷ ys) (undated_map f xs same)

undated_more : (reads more : List ReadAnswer) → map undated (map undated reads ++ more) ≡ map undated (reads ++ more)
undated_more [] more = refl
undated_more (x ∷ xs) more = ap (λ rest. undated x ∷ rest) (undated_more xs more)

length_undated : (reads : List ReadAnswer) → length (map undated reads) ≡ length reads
length_undated [] = refl
length_undated (x ∷ xs) = ap suc (length_undated xs)

-- ---- what a run sees

found_undated : (key : List ℕ) (reads : List ReadAnswer) → option_map said (answer_in key (map undated reads)) ≡ option_map said (answer_in key reads)
found_undated key [] = refl
found_undated key (a ∷ reads) = grind (arith, nat_tests, found_undated key reads)

undated_run : (program : ProgramTree) (reads : List ReadAnswer) → run_on program (map undated reads) ≡ run_on program reads
undated_run program reads = grind (arith, nat_tests, found_undated)

undated_due : (keys : List (List ℕ)) (reads : List ReadAnswer) → is_due keys (map undated reads) ≡ is_due keys reads
undated_due keys reads = grind (arith, nat_tests)

undated_at : (level : Level) (reads : List ReadAnswer) → is_serializable level ≡ false → at_of level (map undated reads) ≡ at_of level reads
undated_at level reads not = grind (arith, nat_tests)

-- where nothing is prefetched nothing serves
pub gone_alone : (program : ProgramTree) (reads : List ReadAnswer) → gone_on program (known_of reads []) ≡ reads
unfolding settle
gone_alone program reads = grind (arith, nat_tests)

undated_gone : (program : ProgramTree) (reads : List ReadAnswer) (a : ReadAnswer) →
    map undated (gone_on program (known_of (map undated reads ++ a ∷ []) [])) ≡ map undated (gone_on program (known_of (reads ++ a ∷ []) []))
undated_gone program reads a = grind (arith, nat_tests, gone_alone, undated_more)

-- ---- a commit

undated_reread : (level : Level) (reads : List ReadAnswer) → is_serializable level ≡ false → reread_keys level (map undated reads) ≡ reread_keys level reads
undated_reread level reads not = grind (arith, nat_tests, undated_map)

undated_commit : (terms : Terms) (level : Level) (reads : List ReadAnswer) (run : Run) → is_serializable level ≡ false →
    committed terms level (map undated reads) run ≡ committed terms level reads run
undated_commit terms level reads run not = grind (arith, nat_tests, commit_by, length_undated, undated_reread, undated_map)

-- ---- a conflict

-- a compare that failed, counted from a place on, is one of an answer: what is reported of it is its key and its modification revision
record FoundAt (from : ℕ) (reads : List ReadAnswer) (more others : List Seen) (failed : FailedCompare) : Type 0 where
  index : ℕ
  at : failed.index ≡ from + index
  same : reported_of (seen_in (slice_get (map seen_of_read (map undated reads) ++ more) index))
      ≡ reported_of (seen_in (slice_get (map seen_of_read reads ++ others) index))

found_at : (state : List ℕ → Option KeyState) (from : ℕ) (reads : List ReadAnswer) (more others : List Seen) (failed : FailedCompare) →
    first_failed state from (map is_as_read reads) ≡ Some failed → FoundAt from reads more others failed
found_at state from [] more others failed is = absurd (cc)
found_at state from (a ∷ reads) more others failed is =
    by_test (λ further. found_at state (from + 1) reads more others failed further) (holds (is_as_read a) (state a.key)) is
  where
    by_test : (first_failed state (from + 1) (map is_as_read reads) ≡ Some failed → FoundAt (from + 1) reads more others failed) → (b : Bool) →
        cond b (first_failed state (from + 1) (map is_as_read reads)) (Some (let it : FailedCompare = record { index = from; mod_rev = mod_of (state a.key) } in it)) ≡ Some failed →
        FoundAt from (a ∷ reads) more others failed
    by_test again true further =
        let next : FoundAt (from + 1) reads more others failed = again further in
        let at : failed.index ≡ from + 1 + next.index = next.at in
        record { index = suc next.index; at = omega (arith, at); same = next.same }
    by_test again false here =
        let it : (let first : FailedCompare = record { index = from; mod_rev = mod_of (state a.key) } in first) ≡ failed = cc in
        let at : from ≡ failed.index = ap (λ (f : FailedCompare). f.index) it in
        record { index = 0; at = omega (arith, at); same = refl }

undated_conflict : (h : History) (level : Level) (reads : List ReadAnswer) (writes : List Change) (failed : FailedCompare) → is_serializable level ≡ false →
    conflict_now h level reads writes ≡ Some failed →
    reported_of (seen_in (slice_get (seen_by (map undated reads) writes) failed.index)) ≡ reported_of (seen_in (slice_get (seen_by reads writes) failed.index))
undated_conflict h SerializableSnapshot reads writes failed not is = absurd (cc)
undated_conflict h Serializable reads writes failed not is = absurd (cc)
undated_conflict h RepeatableReads reads writes failed not is =
    let more : List Seen = map (seen_of_write (first_carried (map undated reads))) writes in
    let others : List Seen = map (seen_of_write (first_carried reads)) writes in
    let found : FoundAt 0 reads more others failed = found_at (key_now h) 0 reads more others failed is in
    let place : failed.index ≡ 0 + found.index = found.at in
    let at : failed.index ≡ found.index = omega (arith, place) in
    ap (λ i. reported_of (seen_in (slice_get (map seen_of_read (map undated reads) ++ more) i))) at ∙ found.same
    ∙ sym (ap (λ i. reported_of (seen_in (slice_get (map seen_of_read reads ++ others) i))) at)
undated_conflict h ReadCommitted reads writes failed not is = absurd (cc)

pub undated_attempts_are_same : UndatedAttemptsAreSame
undated_attempts_are_same = grind (arith, nat_tests, undated_run, undated_due, undated_at, undated_gone, undated_commit, undated_conflict, undated_map)
