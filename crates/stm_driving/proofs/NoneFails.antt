-- No compare fails of a commit that read its keys as they are.
use Rattle.std.proofs.Common.{◌≡◌, ◌≤◌, ℕ, ◌+◌, true, List, [], ◌∷◌, ◌++◌, map, All, Option, Some, None, Result, Ok, Err, IfSome, refl, sym, ap, subst, ◌∙◌, arith}
use Rattle.std.specs.Prelude.{fold, min}
use Rattle.std.specs.List.{AllByRecursion}
use Rattle.std.proofs.lemmas.List.Elements.{recursion_from_All}
use Rattle.stm_history.specs.declared.key_state.KeyState.{KeyState}
use Rattle.stm_history.specs.declared.key_state.ReadAnswer.{ReadAnswer}
use Rattle.stm_history.specs.declared.revisions.TheConstants.{HIGHEST_REVISION}
use Rattle.stm_history.specs.History.{History, now, key_at, key_now, mod_of, key_of}
use Rattle.stm_history.specs.Laws.{AreSmallIn}
use Rattle.stm_history.proofs.HistoryLaws.{last_revision_is_now, numbers_stay_small}
use Rattle.stm_program.specs.declared.level.Level.{Level}
use Rattle.stm_program.specs.declared.level.Level.TheVariants.{SerializableSnapshot, Serializable, RepeatableReads, ReadCommitted}
use Rattle.stm_history.specs.declared.change.Change.{Change}
use Rattle.stm_program.specs.Writes.{latest_writes}
use Rattle.stm_steps.specs.declared.run.Run.{Run}
use Rattle.stm_outcome.specs.declared.txn.Txn.{Txn}
use Rattle.stm_outcome.specs.declared.answer.TxnAnswer.{TxnAnswer}
use Rattle.stm_outcome.specs.declared.refusal.Refusal.{Refusal}
use Rattle.stm_outcome.specs.Outcome.{Done, outcome}
use Rattle.stm_txn.specs.Standing.{Standing, Step, terms_of, step_of, transacted, with_history}
use Rattle.stm_outcome.specs.declared.txn.Compare.{Compare}
use Rattle.stm_outcome.specs.Compares.{holds, first_failed}
use Rattle.stm_outcome.proofs.Applying.{is_done, mod_compares}
use Rattle.stm_compile.specs.CommitTxn.{first_carried, is_as_read, is_unmodified, compares_of, commit_of}
use Rattle.stm_driving.specs.AtOnce.{IsReadNow, IsCommittedAtOnce}

abbrev AllHold : (List ℕ → Option KeyState) → List Compare → Type 0
AllHold state [] = Unit {0}
AllHold state (c ∷ cs) = (holds c (state c.key) ≡ true) × AllHold state cs

none_fails : (state : List ℕ → Option KeyState) (index : ℕ) (cs : List Compare) → AllHold state cs → first_failed state index cs ≡ None
none_fails state index [] all = refl
none_fails state index (c ∷ cs) (one, others) = rw one (none_fails state (index + 1) cs others)

both_hold : (state : List ℕ → Option KeyState) (xs ys : List Compare) → AllHold state xs → AllHold state ys → AllHold state (xs ++ ys)
both_hold state [] ys a b = b
both_hold state (x ∷ xs) ys (one, others) b = (one, both_hold state xs ys others b)

-- ---- the keys that were read

reads_hold : (h : History) (reads : List ReadAnswer) → AllByRecursion (IsReadNow h) reads → AllHold (key_now h) (map is_as_read reads)
reads_hold h [] all = tt
reads_hold h (a ∷ reads) (one, others) =
    let same : (mod_of (key_now h a.key)) ≡ mod_of a.kv = sym (ap_kv a one) in
    ((mod_compares.equal a.key (mod_of a.kv) (key_now h a.key)).1 same, reads_hold h reads others)
  where
    ap_kv : (x : ReadAnswer) → IsReadNow h x → mod_of x.kv ≡ mod_of (key_now h x.key)
    ap_kv x is = cc (is)

-- ---- the keys that are written

modified_by : (h : History) (s : Option KeyState) → IfSome s (AreSmallIn h) → mod_of s ≤ now h
modified_by h None small = omega arith
modified_by h (Some s) small = small.1

modified_before : (h : History) (key : List ℕ) → mod_of (key_now h key) ≤ now h
modified_before h key =
    subst (λ (s : Option KeyState). mod_of s ≤ now h) (last_revision_is_now h key (now h) (omega arith))
    (modified_by h (key_at h key (now h)) (numbers_stay_small h key (now h)))

-- the least of what answers of now carry is not below now
carried_by : (h : History) (least : ℕ) (answers : List ReadAnswer) → now h ≤ least → AllByRecursion (IsReadNow h) answers
    → now h ≤ fold (λ least (b : ReadAnswer). min least b.revision) least answers
carried_by h least [] above all = above
carried_by h least (a ∷ answers) above (one, others) =
    let carries : a.revision ≡ now h = carried a one in
    carried_by h (min least a.revision) answers (grind (arith, carries)) others
  where
    carried : (x : ReadAnswer) → IsReadNow h x → x.revision ≡ now h
    carried x is = cc (is)

carried_above : (h : History) (reads : List ReadAnswer) → now h ≤ HIGHEST_REVISION → AllByRecursion (IsReadNow h) reads → now h ≤ first_carried reads
carried_above h [] high all = high
carried_above h (a ∷ reads) high (one, others) = carried_by h a.revision reads (let carries = carried a one in omega (arith, carries)) others
  where
    carried : (x : ReadAnswer) → IsReadNow h x → x.revision ≡ now h
    carried x is = cc (is)

writes_hold : (h : History) (first : ℕ) (writes : List Change) → now h ≤ first → AllHold (key_now h) (map (is_unmodified first) writes)
writes_hold h first [] above = tt
writes_hold h first (w ∷ writes) above =
    let before = modified_before h (key_of w) in
    ((mod_compares.below (key_of w) (first + 1) (key_now h (key_of w))).1 (omega (arith, before, above)), writes_hold h first writes above)

-- ---- the commit

all_hold : (h : History) (level : Level) (reads : List ReadAnswer) (writes : List Change) → now h ≤ HIGHEST_REVISION → AllByRecursion (IsReadNow h) reads
    → AllHold (key_now h) (compares_of level reads writes)
all_hold h SerializableSnapshot reads writes high are =
    both_hold (key_now h) (map is_as_read reads) (map (is_unmodified (first_carried reads)) writes) (reads_hold h reads are)
    (writes_hold h (first_carried reads) writes (carried_above h reads high are))
all_hold h Serializable reads writes high are = reads_hold h reads are
all_hold h RepeatableReads reads writes high are = reads_hold h reads are
all_hold h ReadCommitted reads writes high are = tt

pub none_fails_at_once : (h : History) (level : Level) (reads : List ReadAnswer) (writes : List Change) → now h ≤ HIGHEST_REVISION → All (IsReadNow h) reads
    → first_failed (key_now h) 0 (compares_of level reads writes) ≡ None
none_fails_at_once h level reads writes high are =
    none_fails (key_now h) 0 (compares_of level reads writes) (all_hold h level reads writes high (recursion_from_All (IsReadNow h) reads are))

failed_by : (s : Standing) (txn : Txn) (step : Step TxnAnswer) (o : Result Done Refusal) → outcome (terms_of s) txn ≡ o → step_of s o ≡ Ok step
    → first_failed (key_now s.history) 0 txn.compares ≡ step.answer.failed
failed_by s txn step (Err cause) is came = absurd (cc (came))
failed_by s txn step (Ok done) is came =
    let made = (is_done (terms_of s) txn done is).made in
    let same : record { answer = done.answer; next = with_history s done.history } ≡ step = cc (came) in
    ap (λ (x : Done). x.answer.failed) made ∙ ap (λ (x : Step TxnAnswer). x.answer.failed) same

-- the transaction of such a commit was made
pub committed_at_once : (level : Level) (run : Run) (s next : Standing) (h : History) (reads : List ReadAnswer) (writes : List Change) (txn : Txn) (answer : TxnAnswer)
    → h ≡ s.history → now h ≤ HIGHEST_REVISION → All (IsReadNow h) reads → writes ≡ latest_writes run.writes → txn ≡ commit_of level reads writes
    → transacted s txn ≡ Ok record { answer = answer; next = next } → IsCommittedAtOnce level run s next
committed_at_once level run s next h reads writes txn answer of_store high are latest same is =
    let it : Txn = commit_of level reads (latest_writes run.writes) in
    let made : transacted s it ≡ Ok record { answer = answer; next = next } =
    ap (λ (ws : List Change). transacted s (commit_of level reads ws)) (sym latest) ∙ ap (λ (t : Txn). transacted s t) (sym same) ∙ is
    in
    let now_so : All (IsReadNow s.history) reads = subst (λ (k : History). All (IsReadNow k) reads) of_store are in
    let counter : now s.history ≤ HIGHEST_REVISION = subst (λ (k : History). now k ≤ HIGHEST_REVISION) of_store high in
    record {
      reads = reads;
      are_now = now_so;
      answer = answer;
      is_made = made;
      none_failed = sym (failed_by s it (record { answer = answer; next = next }) (outcome (terms_of s) it) refl made)
          ∙ none_fails_at_once s.history level reads (latest_writes run.writes) counter now_so;
    }
