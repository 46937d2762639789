-- What runners ask of a store, the fetch of a key or of a list and the commit, comes to the same once the revisions below the floor are dropped.
use Rattle.std.proofs.Common.{◌≡◌, ℕ, ◌-◌, ◌≤◌, Bool, false, cond, List, [], ◌∷◌, length, map, Option, Some, None, refl, ◌∙◌, ap, arith}
use Rattle.std.specs.Prelude.{nat_lt, Result, Ok, Err}
use Rattle.std.proofs.lemmas.Bool.Decides.{nat_tests}
use Rattle.stm_history.specs.declared.key_state.KeyState.{KeyState}
use Rattle.stm_history.specs.declared.key_state.ReadAnswer.{ReadAnswer}
use Rattle.stm_history.specs.History.{History, now, key_now}
use Rattle.stm_history.specs.Cut.{cut}
use Rattle.stm_history.proofs.CutLaws.{cut_keeps_now}
use Rattle.stm_program.specs.declared.level.Level.{Level}
use Rattle.stm_program.specs.Writes.{latest_writes}
use Rattle.stm_steps.specs.declared.run.Run.{Run}
use Rattle.stm_outcome.specs.declared.answer.OpAnswer.{OpAnswer}
use Rattle.stm_outcome.specs.declared.answer.OpAnswer.TheVariants.{Get as GetAnswer}
use Rattle.stm_outcome.specs.declared.answer.FailedCompare.{FailedCompare}
use Rattle.stm_outcome.specs.declared.refusal.Refusal.{Refusal}
use Rattle.stm_outcome.specs.declared.refusal.Refusal.TheVariants.{TooManyOps, Compacted}
use Rattle.stm_outcome.specs.Terms.{Terms, is_below_floor}
use Rattle.stm_outcome.specs.Outcome.{Done, outcome}
use Rattle.stm_outcome.specs.Commits.{shown, reads_now}
use Rattle.stm_txn.specs.Standing.{Standing, kept, terms_of}
use Rattle.stm_compile.specs.Answers.{answer_now}
use Rattle.stm_compile.specs.Committed.{judged, committed}
use Rattle.stm_attempt.specs.ReadyRun.{ReadyRun}
use Rattle.stm_journal.specs.declared.verdict.Verdict.{Verdict}
use Rattle.stm_journal.specs.JournalState.{JournalState, JournalStep}
use Rattle.stm_journal.specs.Verdicts.{txn_of, sent_as, sent}
use Rattle.stm_journal.specs.Fetched.{fetched, fetch_reported, fetch_all_reported}
use Rattle.stm_compaction.specs.Kept.{kept_done, kept_terms, kept_journal, kept_journal_step}
use Rattle.stm_compaction.proofs.Alike.{IsAlike, cut_is_alike}
use Rattle.stm_compaction.proofs.Transactions.{Grows, applied_kept, applied_grows, outcome_kept, outcome_grows, not_below}
use Rattle.stm_compaction.proofs.Calls.{HasReached}

-- ---- what is read of now

abbrev fetched_as : List ℕ → Option KeyState → ℕ → ℕ → ReadAnswer
fetched_as key kv of_rev counter = record { key = key; kv = kv; of_rev = of_rev; revision = counter }

abbrev answer_by : List ℕ → Option KeyState → ℕ → OpAnswer
answer_by key kv counter = GetAnswer (fetched_as key kv counter counter)

module _ (floor : ℕ) (g h : History) (alike : IsAlike floor g h) (reached : floor ≤ now h) where
  shown_alike : (keys : List (List ℕ)) → map (shown g) (reads_now keys) ≡ map (shown h) (reads_now keys)
  shown_alike [] = refl
  shown_alike (key ∷ keys) = grind (arith, nat_tests, shown_alike keys)

  answers_alike : (keys : List (List ℕ)) → map (answer_now g) keys ≡ map (answer_now h) keys
  answers_alike [] = refl
  answers_alike (key ∷ keys) =
      ap (λ (state : List ℕ → Option KeyState). fetched_as key (state key) (now g) (now g) ∷ map (answer_now g) keys) alike.keys_now
      ∙ ap (λ (n : ℕ). fetched_as key (key_now h key) n n ∷ map (answer_now g) keys) alike.counter
      ∙ ap (λ (l : List ReadAnswer). answer_now h key ∷ l) (answers_alike keys)

-- ---- a commit

-- a compare failed
abbrev down : Option FailedCompare → List OpAnswer → ℕ → History → Result Done Refusal
down failed answers counter h = Ok record { answer = record { succeeded = false; revision = counter; answers = answers; failed = failed }; history = h }

module _ (terms : Terms) (reached : terms.floor ≤ now terms.history) (level : Level) (reads : List ReadAnswer) (run : Run) where
  judged_kept : (o : Option FailedCompare) → judged (kept_terms terms) level reads run o ≡ kept_done terms.floor (judged terms level reads run o)
  judged_kept None = applied_kept terms reached (latest_writes run.writes)
  judged_kept (Some failed) = grind (arith, nat_tests, IsAlike, cut_is_alike, shown_alike)

  committed_by : (many : Bool) (o : Option FailedCompare) →
      cond many (Err TooManyOps) (judged (kept_terms terms) level reads run o)
      ≡ kept_done terms.floor (cond many (Err TooManyOps) (judged terms level reads run o))
  committed_by many o = grind (arith, nat_tests, judged_kept)

  pub committed_kept : committed (kept_terms terms) level reads run ≡ kept_done terms.floor (committed terms level reads run)
  committed_kept = grind (arith, nat_tests, cut_is_alike, committed_by)

pub committed_grows : (terms : Terms) (level : Level) (reads : List ReadAnswer) (run : Run) → Grows terms.history (committed terms level reads run)
committed_grows terms level reads run = grind (arith, nat_tests, applied_grows)

-- ---- as it is reported

abbrev reported_as : Verdict → JournalState → Result (JournalStep Verdict) Refusal
reported_as verdict next = Ok record { answer = verdict; next = next }

abbrev reported_step : JournalStep Verdict → Result (JournalStep Verdict) Refusal
reported_step step = Ok step

sent_by : (journal : JournalState) → HasReached journal.standing → (ready : ReadyRun) (o : Result Done Refusal) → Grows journal.standing.history o →
    sent_as (kept_journal journal) ready (kept_done journal.standing.floor o) ≡ kept_journal_step (sent_as journal ready o)
sent_by journal reached ready o grown = grind (arith, nat_tests, cut_keeps_now, answers_alike, cut_is_alike)

pub sent_kept : (journal : JournalState) → HasReached journal.standing → (ready : ReadyRun) →
    sent (kept_journal journal) ready ≡ kept_journal_step (sent journal ready)
sent_kept journal reached ready =
    let terms : Terms = terms_of journal.standing in
    ap (sent_as (kept_journal journal) ready) (outcome_kept terms reached (txn_of ready))
    ∙ sent_by journal reached ready (outcome terms (txn_of ready)) (outcome_grows terms (txn_of ready))

-- ---- a list

pub listed_kept : (s : Standing) → HasReached s → (keys : List (List ℕ)) → fetch_all_reported (kept s) keys ≡ fetch_all_reported s keys
listed_kept s reached keys =
    ap (λ (answers : List ReadAnswer). (let o : Result (List ReadAnswer) Refusal = cond (nat_lt s.limit (length keys)) (Err TooManyOps) (Ok answers) in o))
    (answers_alike s.floor (cut (s.floor - 1) s.history) s.history (cut_is_alike s.floor s.history reached) reached keys)

-- ---- a fetch

abbrev answered : ReadAnswer → Result ReadAnswer Refusal
answered a = Ok a

fetched_by : (s : Standing) → HasReached s → (key : List ℕ) (at : ℕ) (below : Bool) → is_below_floor s.floor at ≡ below →
    cond below (Err Compacted) (answered (fetched (cut (s.floor - 1) s.history) key at)) ≡ cond below (Err Compacted) (answered (fetched s.history key at))
fetched_by s reached key at below is = grind (arith, nat_tests, cut_is_alike, not_below)

pub fetched_kept : (s : Standing) → HasReached s → (key : List ℕ) (at : ℕ) → fetch_reported (kept s) key at ≡ fetch_reported s key at
fetched_kept s reached key at = fetched_by s reached key at (is_below_floor s.floor at) refl
