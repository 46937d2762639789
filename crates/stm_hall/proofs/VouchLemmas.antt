-- Where no compare fails and each value is the store's, the run on the answers is the run on the state as it is now.
use Rattle.std.proofs.Common.{◌≡◌, ℕ, ◌+◌, List, [], ◌∷◌, ◌++◌, map, Bool, true, false, cond, not, Option, None, Some, refl, sym, ◌∙◌, ap, subst}
use Rattle.std.proofs.lemmas.List.{append-nil}
use Rattle.std.specs.Prelude.{bytes_eq}
use Rattle.std.specs.List.{find, AllByRecursion}
use Rattle.stm_history.specs.declared.key_state.KeyState.{KeyState}
use Rattle.stm_history.specs.declared.key_state.ReadAnswer.{ReadAnswer}
use Rattle.stm_history.specs.History.{History, key_now, value_of, mod_of}
use Rattle.stm_program.specs.Syntax.{Block}
use Rattle.stm_program.specs.declared.level.Level.{Level}
use Rattle.stm_program.specs.declared.level.Level.TheVariants.{SerializableSnapshot, Serializable, RepeatableReads, ReadCommitted}
use Rattle.stm_history.specs.declared.change.Change.{Change}
use Rattle.stm_program.proofs.WriteLemmas.{bytes_eq-same}
use Rattle.stm_meaning.specs.Laws.{IsContinuedBy}
use Rattle.stm_meaning.specs.Meaning.{run_over}
use Rattle.stm_steps.specs.declared.run.Answered.{Answered}
use Rattle.stm_steps.specs.declared.run.Answered.TheVariants.{Ended}
use Rattle.stm_steps.specs.declared.run.Run.{Run}
use Rattle.stm_meaning.proofs.RunLaws.{answers_give_the_run}
use Rattle.stm_outcome.specs.declared.txn.Compare.{Compare}
use Rattle.stm_outcome.specs.declared.answer.FailedCompare.{FailedCompare}
use Rattle.stm_outcome.specs.Compares.{holds, first_failed}
use Rattle.stm_outcome.proofs.Applying.{mod_compares}
use Rattle.stm_program.specs.Levels.{is_comparing}
use Rattle.stm_compile.specs.Answers.{seen_of, said, look_up, state_now}
use Rattle.stm_compile.specs.CommitTxn.{is_as_read}
use Rattle.stm_compile.specs.Committed.{conflict_now}
use Rattle.stm_compile.proofs.AgreeLemmas.{answers_agree}
use Rattle.stm_journal.specs.Verdicts.{has_other_value, first_unvouched}

-- each answer says what its key is now
abbrev AreNow : History → List ReadAnswer → Type 0
AreNow h reads = AllByRecursion (λ (x : ReadAnswer). state_now h x.key ≡ Some (said x)) reads

seen_alike : (s t : Option KeyState) → value_of s ≡ value_of t → mod_of s ≡ mod_of t → seen_of s ≡ seen_of t
seen_alike s t value modified = λ i. record { value = value i; mod_rev = modified i }

same_value : (b : Bool) → not b ≡ false → b ≡ true
same_value true is = refl
same_value false is = absurd (cc)

next_holds : (b : Bool) (f : FailedCompare) (rest : Option FailedCompare) → cond b rest (Some f) ≡ None → (b ≡ true) × (rest ≡ None)
next_holds true f rest e = (refl, e)
next_holds false f rest e = absurd (cc)

next_is_not : (b : Bool) (a : ReadAnswer) (rest : Option ReadAnswer) → cond b (Some a) rest ≡ None → (b ≡ false) × (rest ≡ None)
next_is_not true a rest e = absurd (cc)
next_is_not false a rest e = (refl, e)

unchanged_reads : (h : History) (reads : List ReadAnswer) (others : List Compare) (i : ℕ) →
    first_failed (key_now h) i (map is_as_read reads ++ others) ≡ None → find (has_other_value h) reads ≡ None → AreNow h reads
unchanged_reads h [] others i none vouched = tt
unchanged_reads h (a ∷ reads) others i none vouched =
    let held = next_holds (holds (is_as_read a) (key_now h a.key)) (record { index = i; mod_rev = mod_of (key_now h a.key) })
    (first_failed (key_now h) (i + 1) (map is_as_read reads ++ others)) none in
    let said_so = next_is_not (has_other_value h a) a (find (has_other_value h) reads) vouched in
    let value : value_of a.kv ≡ value_of (key_now h a.key) =
    bytes_eq-same (value_of a.kv) (value_of (key_now h a.key)) (same_value (bytes_eq (value_of a.kv) (value_of (key_now h a.key))) said_so.0) in
    let modified : mod_of (key_now h a.key) ≡ mod_of a.kv = (mod_compares.equal a.key (mod_of a.kv) (key_now h a.key)).0 held.0 in (
      ap (λ s. Some s) (seen_alike (key_now h a.key) a.kv (sym value) modified),
      unchanged_reads h reads others (i + 1) held.1 said_so.1,
    )

reads_alone : (h : History) (reads : List ReadAnswer) → first_failed (key_now h) 0 (map is_as_read reads) ≡ None →
    find (has_other_value h) reads ≡ None → AreNow h reads
reads_alone h reads none vouched =
    unchanged_reads h reads [] 0 (ap (first_failed (key_now h) 0) (append-nil (map is_as_read reads)) ∙ none) vouched

reads_are_now : (h : History) (level : Level) (reads : List ReadAnswer) (writes : List Change) → is_comparing level ≡ true →
    conflict_now h level reads writes ≡ None → first_unvouched h level reads ≡ None → AreNow h reads
reads_are_now h SerializableSnapshot reads writes compares none vouched = unchanged_reads h reads _ 0 none vouched
reads_are_now h Serializable reads writes compares none vouched = reads_alone h reads none vouched
reads_are_now h RepeatableReads reads writes compares none vouched = reads_alone h reads none vouched
reads_are_now h ReadCommitted reads writes compares none vouched = absurd (cc)

pub vouched_run : (h : History) (level : Level) (reads : List ReadAnswer) (writes : List Change) (program : Block) (run : Run) → is_comparing level ≡ true →
    conflict_now h level reads writes ≡ None → first_unvouched h level reads ≡ None → run_over (look_up reads) program ≡ Ended run →
    run_over (state_now h) program ≡ Ended run
vouched_run h level reads writes program run compares none vouched ended =
    subst (λ (answered : Answered). IsContinuedBy answered (run_over (state_now h) program)) ended
    (answers_give_the_run (look_up reads) (state_now h) program
    (answers_agree (state_now h) reads (reads_are_now h level reads writes compares none vouched)))
