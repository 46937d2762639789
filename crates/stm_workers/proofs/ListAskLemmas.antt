-- What the fetch of a list answers in a hall.
use Rattle.std.proofs.Common.{◌≡◌, ℕ, List, [], ◌∷◌, length, map, Bool, true, false, None, Result, Ok, Err, refl, sym, ◌∙◌, ap, subst}
use Rattle.std.specs.Prelude.{nat_lt, All}
use Rattle.std.specs.List.{list_all}
use Rattle.stm_history.specs.declared.key_state.ReadAnswer.{ReadAnswer}
use Rattle.stm_history.specs.History.{History, now}
use Rattle.stm_outcome.specs.declared.txn.Txn.{Txn}
use Rattle.stm_outcome.specs.declared.answer.TxnAnswer.{TxnAnswer}
use Rattle.stm_outcome.specs.declared.refusal.Refusal.TheVariants.{TooManyOps}
use Rattle.stm_outcome.specs.Commits.{AreNamed, read_op, read_out, reads_now}
use Rattle.stm_outcome.specs.Outcome.{Done, outcome}
use Rattle.stm_outcome.specs.Numbers.{AnswerFits, ReadFits}
use Rattle.stm_outcome.specs.Terms.{Terms}
use Rattle.stm_txn.specs.Standing.{Standing, terms_of}
use Rattle.stm_compile.specs.Answers.{answer_now}
use Rattle.stm_attempt.specs.Fetches.{AllShow, ShowOneRevision}
use Rattle.stm_journal.specs.Fetched.{fetch_all_of}
use Rattle.stm_journal.specs.Reads.{reads_in}
use Rattle.stm_journal.proofs.ListFetchLemmas.{all_come, too_many_come, reads_shown}
use Rattle.stm_journal.proofs.ReadLemmas.{reads_fit}
use Rattle.stm_journal.specs.declared.refusal.FetchRefusal.{FetchRefusal}
use Rattle.stm_journal.specs.declared.refusal.FetchRefusal.TheVariants.{Behind}
use Rattle.stm_journal.specs.Fetching.{OnlyReads, is_read, answered}
use Rattle.stm_journal.specs.JournalState.{JournalState}
use Rattle.stm_workers.specs.Calls.{AnswersInSomeHall}
use Rattle.stm_workers.proofs.AskLemmas.{of_answered, of_test}

-- each key was answered as it was in one history
pub record ShowsKeys (keys : List (List ℕ)) (answer : TxnAnswer) : Type 0 where
  pub history : History
  pub shows : reads_in answer.answers ≡ map (answer_now history) keys

shown_by_count : (terms : Terms) (keys : List (List ℕ)) (done : Done) (many : Bool) → nat_lt terms.limit (length keys) ≡ many → AreNamed keys →
    outcome terms (fetch_all_of keys) ≡ Ok done → ShowsKeys keys done.answer
shown_by_count terms keys done true many named came =
    let both : Err TooManyOps ≡ Ok (let d : Done = done in d) = sym (too_many_come terms keys named many) ∙ came in absurd (cc both)
shown_by_count terms keys done false few named came =
    let out : Done = read_out terms.history None (reads_now keys) in
    let both : Ok out ≡ Ok done = sym (all_come terms keys named few) ∙ came in
    let same : out ≡ done = cc both in
    record {
      history = terms.history;
      shows = sym (ap (λ (d : Done). reads_in d.answer.answers) same) ∙ reads_shown terms.history keys;
    }

-- a fetch that is answered, in whichever hall it was made
pub shows_keys : (handed : JournalState) (seen : ℕ) (keys : List (List ℕ)) (txn : Txn) (result : Result TxnAnswer FetchRefusal) (answer : TxnAnswer) → txn ≡ fetch_all_of keys →
    AreNamed keys → AnswersInSomeHall handed seen txn result → result ≡ Ok answer → ShowsKeys keys answer
shows_keys handed seen keys txn result answer is named reported came =
    let here : AnswersInSomeHall handed seen (fetch_all_of keys) (Ok answer) =
    subst (λ (t : Txn). AnswersInSomeHall handed seen t (Ok answer)) is
    (subst (λ (r : Result TxnAnswer FetchRefusal). AnswersInSomeHall handed seen txn r) came reported) in
    let s : Standing = here.0.standing in
    let alone = of_test (nat_lt (now s.history) seen) (Behind seen (now s.history)) (answered (outcome (terms_of s) (fetch_all_of keys))) answer here.2 in
    let d = of_answered (outcome (terms_of s) (fetch_all_of keys)) answer alone in
    subst (ShowsKeys keys) d.2 (shown_by_count (terms_of s) keys d.0 (nat_lt s.limit (length keys)) refl named d.1)

-- it only reads
all_reading : (keys : List (List ℕ)) → list_all is_read (map read_op (reads_now keys)) ≡ true
all_reading [] = refl
all_reading (key ∷ keys) = all_reading keys

pub list_only_reads : (keys : List (List ℕ)) (txn : Txn) → txn ≡ fetch_all_of keys → OnlyReads txn
list_only_reads keys txn is = subst OnlyReads (sym is) (record { success = all_reading keys; failure = refl })

-- the answers that were taken are of the keys, in their order
keys_now : (h : History) (keys : List (List ℕ)) → map (λ (a : ReadAnswer). a.key) (map (answer_now h) keys) ≡ keys
keys_now h [] = refl
keys_now h (key ∷ keys) = ap (λ (l : List (List ℕ)). key ∷ l) (keys_now h keys)

pub taken_keys : (keys : List (List ℕ)) (answer : TxnAnswer) (answers : List ReadAnswer) → ShowsKeys keys answer → answers ≡ reads_in answer.answers →
    map (λ (a : ReadAnswer). a.key) answers ≡ keys
taken_keys keys answer answers shows taken =
    ap (λ (l : List ReadAnswer). map (λ (a : ReadAnswer). a.key) l) (taken ∙ shows.shows) ∙ keys_now shows.history keys

-- and all of one revision
show_now : (h : History) (keys : List (List ℕ)) → AllShow (now h) (map (answer_now h) keys)
show_now h [] = tt
show_now h (key ∷ keys) = (refl, show_now h keys)

show_one : (h : History) (keys : List (List ℕ)) → ShowOneRevision (map (answer_now h) keys)
show_one h [] = tt
show_one h (key ∷ keys) = show_now h keys

pub taken_show_one : (keys : List (List ℕ)) (answer : TxnAnswer) (answers : List ReadAnswer) → ShowsKeys keys answer → answers ≡ reads_in answer.answers →
    ShowOneRevision answers
taken_show_one keys answer answers shows taken = subst ShowOneRevision (sym (taken ∙ shows.shows)) (show_one shows.history keys)

pub all_taken_fit : (answer : TxnAnswer) (answers : List ReadAnswer) → AnswerFits answer → answers ≡ reads_in answer.answers → All ReadFits answers
all_taken_fit answer answers fits taken = subst (All ReadFits) (sym taken) (reads_fit answer.answers fits.answers)

-- the fetch of a list, as it was asked for
pub list_in_some_hall : (handed : JournalState) (seen : ℕ) (keys : List (List ℕ)) (txn : Txn) (result came : Result TxnAnswer FetchRefusal) → txn ≡ fetch_all_of keys →
    AnswersInSomeHall handed seen txn result → result ≡ came → AnswersInSomeHall handed seen (fetch_all_of keys) came
list_in_some_hall handed seen keys txn result came is by same =
    subst (λ (t : Txn). AnswersInSomeHall handed seen t came) is (subst (λ (r : Result TxnAnswer FetchRefusal). AnswersInSomeHall handed seen txn r) same by)
