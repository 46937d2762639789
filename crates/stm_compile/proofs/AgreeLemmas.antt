-- True answers, and the runs on them.
use Rattle.std.proofs.Common.{◌≡◌, ℕ, ◌+◌, ◌<◌, ◌≤◌, List, [], ◌∷◌, ◌++◌, map, Bool, true, false, cond, Option, None, Some, refl, sym, ◌∙◌, ap, subst, arith}
use Rattle.std.specs.Prelude.{bytes_eq, option_map}
use Rattle.std.specs.List.{AllByRecursion}
use Rattle.std.proofs.lemmas.List.Elements.{All-from_recursion, recursion_from_All}
use Rattle.stm_history.specs.declared.change.Change.{Change}
use Rattle.stm_history.specs.declared.key_state.ReadAnswer.{ReadAnswer}
use Rattle.stm_history.specs.History.{History, now, add_revision, key_now, key_at, mod_of, IsTrueAnswer, key_of}
use Rattle.stm_history.proofs.HistoryLaws.{older_revisions_stay, last_revision_is_now, same_mod_means_same_state}
use Rattle.stm_program.specs.declared.level.Level.{Level}
use Rattle.stm_program.specs.declared.level.Level.TheVariants.{SerializableSnapshot, Serializable, RepeatableReads, ReadCommitted}
use Rattle.stm_program.proofs.WriteLemmas.{bytes_eq-same}
use Rattle.stm_meaning.specs.Answer.{Answer, Lookup}
use Rattle.stm_meaning.specs.Laws.{AgreesWith, IsContinuedBy}
use Rattle.stm_meaning.specs.Meaning.{run_over}
use Rattle.stm_steps.specs.declared.run.Answered.{Answered}
use Rattle.stm_meaning.proofs.RunLaws.{answers_give_the_run}
use Rattle.stm_outcome.specs.declared.txn.Compare.{Compare}
use Rattle.stm_outcome.specs.declared.answer.FailedCompare.{FailedCompare}
use Rattle.stm_outcome.specs.Compares.{holds, first_failed}
use Rattle.stm_outcome.specs.Outcome.{with_changes}
use Rattle.stm_outcome.proofs.Applying.{mod_compares}
use Rattle.stm_program.specs.Levels.{is_comparing}
use Rattle.stm_compile.specs.Answers.{answer_in, seen_of, said, look_up, state_now, state_as_of, AreTrue, answer_now}
use Rattle.stm_compile.specs.CommitTxn.{first_carried, is_as_read, is_unmodified}
use Rattle.stm_compile.specs.Committed.{conflict_now}
use Rattle.stm_compile.specs.Laws.{CommitIsTheRunNow, TrueReadsAreNow, WrittenKeysAreUnmodified, AnswersOfOneRevision, TrueAnswersStay}

-- ---- answers stay true

true_in_more : (h : History) (changes : List Change) (a : ReadAnswer) → IsTrueAnswer h a → IsTrueAnswer (add_revision h changes) a
true_in_more h changes a t =
    let reached : a.of_rev ≤ now h = t.reached in
    record { reached = omega arith; shown = older_revisions_stay h changes a.key a.of_rev t.reached ∙ t.shown }

true_after : (h : History) (changes : List Change) (a : ReadAnswer) → IsTrueAnswer h a → IsTrueAnswer (with_changes h changes) a
true_after h [] a t = t
true_after h (c ∷ cs) a t = true_in_more h (c ∷ cs) a t

pub true_answers_stay : TrueAnswersStay
true_answers_stay h changes [] t = tt
true_answers_stay h changes (a ∷ reads) t = (true_after h changes a t.0, true_answers_stay h changes reads t.1)

-- the answer to a read of now is true
pub now_is_true : (h : History) (key : List ℕ) → IsTrueAnswer h (answer_now h key)
now_is_true h key = record { reached = omega arith; shown = last_revision_is_now h key (now h) (omega arith) }

pub now_are_true : (h : History) (keys : List (List ℕ)) → AreTrue h (map (answer_now h) keys)
now_are_true h [] = tt
now_are_true h (key ∷ keys) = (now_is_true h key, now_are_true h keys)

-- ---- answers that agree with a look-up

-- the look-up says of each answer's key what the answer says
abbrev AreOf : Lookup → List ReadAnswer → Type 0
AreOf whole reads = AllByRecursion (λ x. whole x.key ≡ Some (said x)) reads

agrees_by : (b : Bool) (x : ReadAnswer) (rest : Option ReadAnswer) (found : Option Answer) (a : Answer) → (b ≡ true → found ≡ Some (said x)) →
    (option_map said rest ≡ Some a → found ≡ Some a) → option_map said (cond b (Some x) rest) ≡ Some a → found ≡ Some a
agrees_by true x rest found a here later e = here refl ∙ e
agrees_by false x rest found a here later e = later e

pub answers_agree : (whole : Lookup) (reads : List ReadAnswer) → AreOf whole reads → AgreesWith (look_up reads) whole
answers_agree whole [] are key a e = absurd (cc)
answers_agree whole (x ∷ reads) are key a e =
    agrees_by (bytes_eq x.key key) x (answer_in key reads) (whole key) a
    (λ same. ap whole (sym (bytes_eq-same x.key key same)) ∙ are.0)
    (λ f. answers_agree whole reads are.1 key a f) e

-- ---- answers of one revision

of_revision : (h : History) (r : ℕ) (reads : List ReadAnswer) → AreTrue h reads → AllByRecursion (λ (a : ReadAnswer). a.of_rev ≡ r) reads →
    AreOf (state_as_of h r) reads
of_revision h r [] t all = tt
of_revision h r (a ∷ reads) t all =
    (ap (λ s. Some (seen_of s)) (ap (λ q. key_at h a.key q) (sym all.0) ∙ t.0.shown), of_revision h r reads t.1 all.1)

pub answers_of_one_revision : AnswersOfOneRevision
answers_of_one_revision h r reads program t all =
    answers_give_the_run (look_up reads) (state_as_of h r) program
    (answers_agree (state_as_of h r) reads (of_revision h r reads t (recursion_from_All (λ (a : ReadAnswer). a.of_rev ≡ r) reads all)))

-- ---- answers whose keys are as they were read

-- equal modification revisions mean the same state
same_now : (h : History) (a : ReadAnswer) → IsTrueAnswer h a → mod_of (key_now h a.key) ≡ mod_of a.kv → key_now h a.key ≡ a.kv
same_now h a t same =
    let last : key_at h a.key (now h) ≡ key_now h a.key = last_revision_is_now h a.key (now h) (omega arith) in
    sym last
    ∙ same_mod_means_same_state h a.key (now h) a.of_rev (ap mod_of last ∙ same ∙ ap mod_of (sym t.shown))
    ∙ t.shown

next_holds : (b : Bool) (f : FailedCompare) (rest : Option FailedCompare) → cond b rest (Some f) ≡ None → (b ≡ true) × (rest ≡ None)
next_holds true f rest e = (refl, e)
next_holds false f rest e = absurd (cc)

-- where no compare of the keys read fails, each answer is what its key is now
unchanged_reads : (h : History) (reads : List ReadAnswer) (others : List Compare) (i : ℕ) → AreTrue h reads →
    first_failed (key_now h) i (map is_as_read reads ++ others) ≡ None → AreOf (state_now h) reads
unchanged_reads h [] others i t none = tt
unchanged_reads h (a ∷ reads) others i t none =
    let parts = next_holds (holds (is_as_read a) (key_now h a.key)) (record { index = i; mod_rev = mod_of (key_now h a.key) })
    (first_failed (key_now h) (i + 1) (map is_as_read reads ++ others)) none in (
      ap (λ s. Some (seen_of s)) (same_now h a t.0 ((mod_compares.equal a.key (mod_of a.kv) (key_now h a.key)).0 parts.0)),
      unchanged_reads h reads others (i + 1) t.1 parts.1,
    )

append_none : (cs : List Compare) → cs ++ [] ≡ cs
append_none [] = refl
append_none (c ∷ cs) = ap (λ l. c ∷ l) (append_none cs)

reads_alone : (h : History) (reads : List ReadAnswer) → AreTrue h reads → first_failed (key_now h) 0 (map is_as_read reads) ≡ None →
    AreOf (state_now h) reads
reads_alone h reads t none = unchanged_reads h reads [] 0 t (ap (first_failed (key_now h) 0) (append_none (map is_as_read reads)) ∙ none)

reads_are_now : (h : History) (level : Level) (reads : List ReadAnswer) (writes : List Change) → is_comparing level ≡ true → AreTrue h reads →
    conflict_now h level reads writes ≡ None → AreOf (state_now h) reads
reads_are_now h SerializableSnapshot reads writes compares t none = unchanged_reads h reads _ 0 t none
reads_are_now h Serializable reads writes compares t none = reads_alone h reads t none
reads_are_now h RepeatableReads reads writes compares t none = reads_alone h reads t none
reads_are_now h ReadCommitted reads writes compares t none = absurd (cc)

-- what a look-up that knows a key says of it
known_by : Answer → Option Answer → Answer
known_by other None = other
known_by other (Some a) = a

said_now : (h : History) (reads : List ReadAnswer) → AreOf (state_now h) reads →
    AllByRecursion (λ (a : ReadAnswer). said a ≡ seen_of (key_now h a.key)) reads
unfolding known_by
said_now h [] are = tt
said_now h (a ∷ reads) are = (ap (known_by (said a)) (sym are.0), said_now h reads are.1)

pub true_reads_are_now : TrueReadsAreNow
true_reads_are_now h level reads writes compares t none =
    All-from_recursion (λ (a : ReadAnswer). said a ≡ seen_of (key_now h a.key)) reads
    (said_now h reads (reads_are_now h level reads writes compares t none))

pub commit_is_the_run_now : CommitIsTheRunNow
commit_is_the_run_now h level reads writes program run compares t ended none =
    subst (λ (answered : Answered). IsContinuedBy answered (run_over (state_now h) program)) ended
    (answers_give_the_run (look_up reads) (state_now h) program (answers_agree (state_now h) reads (reads_are_now h level reads writes compares t none)))

-- ---- keys that are written

-- where no compare of the keys written fails, none of them is modified above `first`
unmodified_writes : (h : History) (first : ℕ) (writes : List Change) (i : ℕ) → first_failed (key_now h) i (map (is_unmodified first) writes) ≡ None →
    AllByRecursion (λ (w : Change). mod_of (key_now h (key_of w)) ≤ first) writes
unmodified_writes h first [] i none = tt
unmodified_writes h first (w ∷ writes) i none =
    let parts = next_holds (holds (is_unmodified first w) (key_now h (key_of w))) (record { index = i; mod_rev = mod_of (key_now h (key_of w)) })
    (first_failed (key_now h) (i + 1) (map (is_unmodified first) writes)) none in
    let below : mod_of (key_now h (key_of w)) < first + 1 = (mod_compares.below (key_of w) (first + 1) (key_now h (key_of w))).0 parts.0 in
    (omega (arith, below), unmodified_writes h first writes (i + 1) parts.1)

-- none of the compares after those of the keys read fails either, wherever they are counted from
after_reads : (h : History) (reads : List ReadAnswer) (others : List Compare) (i : ℕ) →
    first_failed (key_now h) i (map is_as_read reads ++ others) ≡ None → (j : ℕ) × (first_failed (key_now h) j others ≡ None)
after_reads h [] others i none = (i, none)
after_reads h (a ∷ reads) others i none =
    let parts = next_holds (holds (is_as_read a) (key_now h a.key)) (record { index = i; mod_rev = mod_of (key_now h a.key) })
    (first_failed (key_now h) (i + 1) (map is_as_read reads ++ others)) none in after_reads h reads others (i + 1) parts.1

pub written_keys_are_unmodified : WrittenKeysAreUnmodified
written_keys_are_unmodified h reads writes none =
    let behind = after_reads h reads (map (is_unmodified (first_carried reads)) writes) 0 none in
    All-from_recursion (λ (w : Change). mod_of (key_now h (key_of w)) ≤ first_carried reads) writes
    (unmodified_writes h (first_carried reads) writes behind.0 behind.1)
