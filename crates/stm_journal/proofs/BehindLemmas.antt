-- What a fetch answers, and that it changes nothing.
use Rattle.std.proofs.Common.{◌≡◌, inl, ℕ, ◌<◌, ◌≤◌, List, [], ◌∷◌, Bool, true, cond, Result, Ok, Err, refl, sym, ◌∙◌, ap, arith}
use Rattle.std.proofs.lemmas.Bool.{lt-ltb, le-ltb, false≢true, Decides.nat_tests}
use Rattle.std.specs.List.{list_all}
use Rattle.stm_history.specs.declared.key_state.ReadAnswer.{ReadAnswer}
use Rattle.stm_history.specs.History.{History, now}
use Rattle.stm_outcome.specs.declared.txn.Txn.{Txn}
use Rattle.stm_outcome.specs.declared.txn.Op.{Op}
use Rattle.stm_outcome.specs.declared.txn.Op.TheVariants.{Get, Put, Del}
use Rattle.stm_outcome.specs.declared.answer.TxnAnswer.{TxnAnswer}
use Rattle.stm_outcome.specs.declared.refusal.Refusal.{Refusal}
use Rattle.stm_outcome.specs.Branches.{Progress, progress_after, changes_of_branch}
use Rattle.stm_outcome.specs.Outcome.{outcome, with_changes}
use Rattle.stm_txn.specs.Standing.{Standing, IsRefusalOf, with_history, transacted, terms_of}
use Rattle.stm_outcome.proofs.Applying.{branch_run, is_done}
use Rattle.stm_journal.specs.Fetched.{fetch_of, read_reported, one_read, ReadReturns}
use Rattle.stm_journal.proofs.FetchLemmas.{done_of, read_comes_to}
use Rattle.stm_journal.specs.declared.refusal.FetchRefusal.{FetchRefusal}
use Rattle.stm_journal.specs.declared.refusal.FetchRefusal.TheVariants.{Behind, Store}
use Rattle.stm_journal.specs.Fetching.{is_read, OnlyReads, answered, fetched, FetchReturns}
use Rattle.stm_journal.proofs.Sending.{IsAnswered, is_answered, answer_revision}

-- ---- reads change nothing

reads_keep : (h : History) (p : Progress) (ops : List Op) → list_all is_read ops ≡ true → progress_after h p ops ≡ p
reads_keep h p [] all = refl
reads_keep h p (Get key rev ∷ ops) all = reads_keep h p ops all
reads_keep h p (Put key value lease ∷ ops) all = absurd (cc)
reads_keep h p (Del key ∷ ops) all = absurd (cc)

no_change : (h : History) (txn : Txn) → OnlyReads txn → with_changes h (changes_of_branch h (branch_run h txn)) ≡ h
no_change h txn reads = grind (arith, nat_tests, reads_keep, branch_run)

done_unchanged : (s next : Standing) (txn : Txn) (answer : TxnAnswer) (a : IsAnswered s next txn answer) → OnlyReads txn → a.done.history ≡ s.history
done_unchanged s next txn answer a reads = grind (arith, nat_tests, is_done, no_change)

pub store_unchanged : (s next : Standing) (txn : Txn) (answer : TxnAnswer) → OnlyReads txn →
    transacted s txn ≡ Ok record { answer = answer; next = next } → next ≡ s
store_unchanged s next txn answer reads step =
    let a : IsAnswered s next txn answer = is_answered s next txn answer step in
    sym a.left ∙ ap (λ (h : History). with_history s h) (done_unchanged s next txn answer a reads)

pub revision_unchanged : (s next : Standing) (txn : Txn) (answer : TxnAnswer) → OnlyReads txn →
    transacted s txn ≡ Ok record { answer = answer; next = next } → answer.revision ≡ now s.history
revision_unchanged s next txn answer reads step =
    let a : IsAnswered s next txn answer = is_answered s next txn answer step in
    sym (answer_revision s next txn answer a) ∙ ap now (done_unchanged s next txn answer a reads)

-- ---- what is returned

-- the fetch by a caller that has seen more, and by another
fetched_by : Standing → ℕ → Txn → Bool → Result TxnAnswer FetchRefusal
fetched_by s seen txn behind =
    cond behind (Err (Behind seen (now s.history))) (answered (outcome (terms_of s) txn))

pub reports_behind : (s : Standing) (seen : ℕ) (txn : Txn) → now s.history < seen →
    FetchReturns (fetched s seen txn) (Err (Behind seen (now s.history)))
unfolding fetched_by
reports_behind s seen txn below = inl (ap (fetched_by s seen txn) (lt-ltb (now s.history) seen below))

not_behind : (s : Standing) (seen : ℕ) (txn : Txn) → seen ≤ now s.history →
    fetched s seen txn ≡ answered (outcome (terms_of s) txn)
unfolding fetched_by
not_behind s seen txn reached = ap (fetched_by s seen txn) (le-ltb (now s.history) seen reached)

pub reports_answer : (s : Standing) (next : Standing) (seen : ℕ) (txn : Txn) (answer : TxnAnswer) → seen ≤ now s.history →
    transacted s txn ≡ Ok record { answer = answer; next = next } → fetched s seen txn ≡ Ok answer
reports_answer s next seen txn answer reached step = grind (arith, nat_tests, IsAnswered, is_answered, not_behind)

pub reports_refused : (s : Standing) (seen : ℕ) (txn : Txn) (cause : Refusal) → seen ≤ now s.history →
    IsRefusalOf (transacted s txn) cause → FetchReturns (fetched s seen txn) (Err (Store cause))
reports_refused s seen txn cause reached refused = grind (arith, nat_tests, not_behind)

-- ---- the fetch of one key

alone : (s : Standing) (seen : ℕ) (key : List ℕ) (at : ℕ) → 0 < s.limit → seen ≤ now s.history →
    fetched s seen (fetch_of key at) ≡ answered (done_of s (read_reported s key at))
alone s seen key at some reached = not_behind s seen (fetch_of key at) reached ∙ ap answered (read_comes_to s key at some)

pub reports_read : (s : Standing) (seen : ℕ) (key : List ℕ) (at : ℕ) (read : ReadAnswer) → 0 < s.limit → seen ≤ now s.history →
    read_reported s key at ≡ Ok read → fetched s seen (fetch_of key at) ≡ Ok (one_read read)
reports_read s seen key at read some reached reported = grind (arith, nat_tests, alone, done_of)

pub reports_read_refused : (s : Standing) (seen : ℕ) (key : List ℕ) (at : ℕ) (cause : Refusal) → 0 < s.limit → seen ≤ now s.history →
    ReadReturns (read_reported s key at) (Err cause) → FetchReturns (fetched s seen (fetch_of key at)) (Err (Store cause))
reports_read_refused s seen key at cause some reached refused = grind (arith, nat_tests, alone, done_of, false≢true)
