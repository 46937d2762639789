-- What the fetch of one key answers in a hall.
use Rattle.std.proofs.Common.{◌≡◌, ℕ, List, [], ◌∷◌, Bool, true, false, cond, Result, Ok, Err, refl, sym, ◌∙◌, ap, subst}
use Rattle.std.specs.Prelude.{nat_eq, nat_lt}
use Rattle.stm_history.specs.declared.key_state.ReadAnswer.{ReadAnswer}
use Rattle.stm_history.specs.History.{History, now, key_at}
use Rattle.stm_outcome.specs.declared.answer.OpAnswer.TheVariants.{Get as GetAnswer}
use Rattle.stm_outcome.specs.declared.answer.TxnAnswer.{TxnAnswer}
use Rattle.stm_outcome.specs.declared.refusal.Refusal.{Refusal}
use Rattle.stm_outcome.specs.Branches.{begun, read_answer}
use Rattle.stm_outcome.specs.Outcome.{Done, outcome}
use Rattle.stm_txn.specs.Standing.{Standing, terms_of}
use Rattle.stm_outcome.specs.Terms.{Terms}
use Rattle.stm_outcome.proofs.Applying.{done_by, is_done}
use Rattle.stm_compile.specs.Answers.{answer_now}
use Rattle.stm_journal.specs.Fetched.{fetch_of, one_read}
use Rattle.stm_journal.specs.declared.refusal.FetchRefusal.{FetchRefusal}
use Rattle.stm_journal.specs.declared.refusal.FetchRefusal.TheVariants.{Behind}
use Rattle.stm_journal.specs.Fetching.{answered, fetched}
use Rattle.stm_journal.specs.JournalState.{JournalState}
use Rattle.stm_workers.specs.Calls.{AnswersInSomeHall, shown_at}

-- one read of the key was answered, which carries the store's revision, and is shown at the revision that was asked for
pub record ShowsKey (key : List ℕ) (at : ℕ) (answer : TxnAnswer) : Type 0 where
  pub read : ReadAnswer
  pub only : answer.answers ≡ GetAnswer read ∷ []
  pub key_is : read.key ≡ key
  pub carries : read.revision ≡ answer.revision
  pub shows : read.of_rev ≡ shown_at at answer.revision

-- a read of a past revision
answer_then : History → List ℕ → ℕ → ReadAnswer
answer_then h key at = record { key = key; kv = key_at h key at; of_rev = at; revision = now h }

same_key : (b : Bool) (x y : ReadAnswer) (key : List ℕ) → x.key ≡ key → y.key ≡ key → (cond b x y).key ≡ key
same_key true x y key left right = left
same_key false x y key left right = right

same_revision : (b : Bool) (x y : ReadAnswer) (n : ℕ) → x.revision ≡ n → y.revision ≡ n → (cond b x y).revision ≡ n
same_revision true x y n left right = left
same_revision false x y n left right = right

same_shown : (b : Bool) (x y : ReadAnswer) (n at : ℕ) → x.of_rev ≡ n → y.of_rev ≡ at → (cond b x y).of_rev ≡ cond b n at
same_shown true x y n at left right = left
same_shown false x y n at left right = right

shown_by_done : (terms : Terms) (key : List ℕ) (at : ℕ) (done : Done) → outcome terms (fetch_of key at) ≡ Ok done →
    ShowsKey key at done.answer
unfolding answer_then
shown_by_done terms key at done came =
    let h : History = terms.history in
    let made : done_by h (fetch_of key at) ≡ done = (is_done terms (fetch_of key at) done came).made in
    record {
      read = read_answer h (begun h) key at;
      only = sym (ap (λ (d : Done). d.answer.answers) made);
      key_is = same_key (nat_eq at 0) (answer_now h key) (answer_then h key at) key refl refl;
      carries = same_revision (nat_eq at 0) (answer_now h key) (answer_then h key at) (now h) refl refl
          ∙ ap (λ (d : Done). d.answer.revision) made;
      shows = same_shown (nat_eq at 0) (answer_now h key) (answer_then h key at) (now h) at refl refl
          ∙ ap (λ (d : Done). shown_at at d.answer.revision) made;
    }

pub of_answered : (o : Result Done Refusal) (answer : TxnAnswer) → answered o ≡ Ok answer → (done : Done) × (o ≡ Ok done) × (done.answer ≡ answer)
of_answered (Ok done) answer is = (done, refl, ap (λ (r : Result TxnAnswer FetchRefusal). elim r [ Ok a ↦ a | Err e ↦ answer ]) is)
of_answered (Err cause) answer is = absurd (cc)

pub of_test : (b : Bool) (refusal : FetchRefusal) (rest : Result TxnAnswer FetchRefusal) (answer : TxnAnswer) → cond b (Err refusal) rest ≡ Ok answer →
    rest ≡ Ok answer
of_test true refusal rest answer is = absurd (cc)
of_test false refusal rest answer is = is

shown_by : (s : Standing) (seen : ℕ) (key : List ℕ) (at : ℕ) (answer : TxnAnswer) → fetched s seen (fetch_of key at) ≡ Ok answer →
    ShowsKey key at answer
shown_by s seen key at answer came =
    let alone = of_test (nat_lt (now s.history) seen) (Behind seen (now s.history))
    (answered (outcome (terms_of s) (fetch_of key at))) answer came in
    let d = of_answered (outcome (terms_of s) (fetch_of key at)) answer alone in
    subst (ShowsKey key at) d.2 (shown_by_done (terms_of s) key at d.0 d.1)

-- a fetch that is answered, in whichever hall it was made
pub read_shows : (handed : JournalState) (seen : ℕ) (key : List ℕ) (at : ℕ) (read : ReadAnswer) →
    AnswersInSomeHall handed seen (fetch_of key at) (Ok (one_read read)) →
    (read.key ≡ key) × (read.of_rev ≡ shown_at at read.revision)
read_shows handed seen key at read reported =
    let shows : ShowsKey key at (one_read read) = shown_by reported.0.standing seen key at (one_read read) reported.2 in
    let both : GetAnswer read ∷ [] ≡ GetAnswer shows.read ∷ [] = shows.only in
    let same : read ≡ shows.read = cc (both) in
    (ap (λ (a : ReadAnswer). a.key) same ∙ shows.key_is, ap (λ (a : ReadAnswer). a.of_rev) same ∙ shows.shows)

-- the fetch of a key, as it was asked for
pub in_some_hall : (handed : JournalState) (seen : ℕ) (asked key : List ℕ) (at : ℕ) (result : Result TxnAnswer FetchRefusal) → asked ≡ key →
    AnswersInSomeHall handed seen (fetch_of asked at) result → AnswersInSomeHall handed seen (fetch_of key at) result
in_some_hall handed seen asked key at result same by = subst (λ (k : List ℕ). AnswersInSomeHall handed seen (fetch_of k at) result) same by
