-- What a worker does for a job, step by step.
use Rattle.std.proofs.Common.{◌≡◌, ◌⊎◌, inl, inr, ℕ, zero, suc, ◌+◌, ◌≤◌, Bool, true, false, List, [], ◌∷◌, ◌++◌, None, Some, Result, Ok, Err, IfOk, IfErr}
use Rattle.std.proofs.Common.{refl, sym, ◌∙◌, ap, subst, arith}
use Rattle.stm_attempt.specs.declared.next.Next.TheVariants.{FetchAll, Fetch}
use Rattle.stm_attempt.specs.AttemptState.{AttemptState, begun}
use Rattle.stm_attempt.specs.Next.{next_of}
use Rattle.stm_attempt.specs.ReadyRun.{ReadyRun}
use Rattle.stm_journal.specs.declared.refusal.CommitRefusal.{CommitRefusal}
use Rattle.stm_journal.specs.declared.verdict.Verdict.{Verdict}
use Rattle.stm_journal.specs.JournalState.{JournalState}
use Rattle.stm_journal.specs.Verdicts.{verdict_of, CommitReturns}
use Rattle.stm_workers.specs.declared.attempts.AttemptOutcome.{AttemptOutcome}
use Rattle.stm_workers.specs.declared.attempts.AttemptOutcome.TheVariants.{Ended, Again}
use Rattle.stm_job.specs.Ends.{attempts_of}
use Rattle.stm_job.specs.declared.job.Job.{Job}
use Rattle.stm_job.specs.declared.job_end.JobEnd.{JobEnd}
use Rattle.stm_workers.specs.declared.stop.Stop.{Stop}
use Rattle.stm_workers.specs.declared.stop.Stop.TheVariants.{OutOfMemory}
use Rattle.stm_workers.specs.Calls.{committed_by, HasKeptStore, JudgedInSomeHall}
use Rattle.stm_workers.specs.AttemptOutcomes.{IfEnded, IfAgain}
use Rattle.stm_workers.specs.Attempts.{JobState, state_of, job_end_reported, end_after, IsUnanswered, AreUnanswered, IsTurnedAway, IsFetch, HasFetched, IsEvaluated, HasTried}
use Rattle.stm_workers.specs.Attempts.{IsStop, HasStopped, IsNextAttempt, HasFailed, HaveFailed, HasEnded, ComesTo, EndsByVerdict}
use Rattle.stm_workers.specs.Attempts.{EndsByStop, HasCome}

-- ---- one attempt

-- it has fetched nothing yet
pub none_fetched : (handed : JournalState) (job : Job) (state : JobState) → HasFetched handed job state state
none_fetched handed job state = (zero, refl)

pub one_fetched : (handed : JournalState) (job : Job) (before between after : JobState) → HasFetched handed job before between →
    IsFetch handed job between after → HasFetched handed job before after
one_fetched handed job before between after so_far fetch = (suc so_far.0, (between, so_far.1, fetch))

-- ---- an attempt that goes no further

-- what holds of a stop that is returned holds of the one that was made of it
pub reported_out : {A : Type 0} (result : Result A Stop) (P : Stop → Type 0) (made given : Stop) → result ≡ Err made → made ≡ given → P given → IfErr result P
reported_out {A} result P made given is same holds = subst (λ (r : Result A Stop). IfErr r P) (sym is) (subst P (sym same) holds)

-- the key that it wants was refused, and nothing was seen
pub fetch_stops : (handed : JournalState) (job : Job) (at : JobState) (key : List ℕ) (of_rev : ℕ) (stop : Stop) (seen : ℕ) →
    next_of job.program at.attempt.level at.attempt.known ≡ Fetch key of_rev → (stop ≡ OutOfMemory) ⊎ IsUnanswered handed at.seen key of_rev stop →
    seen ≡ at.seen → (stop ≡ OutOfMemory) ⊎ (IsStop handed job at stop × (seen ≡ at.seen))
fetch_stops handed job at key of_rev stop seen wants (inl want) same = inl want
fetch_stops handed job at key of_rev stop seen wants (inr refused) same =
    inr (inr (inl (inl (record { key = key; of_rev = of_rev; wants = wants; refused = refused }))), same)

-- or its list was
pub list_stops : (handed : JournalState) (job : Job) (at : JobState) (keys : List (List ℕ)) (of_rev : ℕ) (stop : Stop) (seen : ℕ) →
    next_of job.program at.attempt.level at.attempt.known ≡ FetchAll keys of_rev → (stop ≡ OutOfMemory) ⊎ AreUnanswered handed at.seen keys stop →
    seen ≡ at.seen → (stop ≡ OutOfMemory) ⊎ (IsStop handed job at stop × (seen ≡ at.seen))
list_stops handed job at keys of_rev stop seen wants (inl want) same = inl want
list_stops handed job at keys of_rev stop seen wants (inr refused) same =
    inr (inr (inl (inr (record { keys = keys; of_rev = of_rev; wants = wants; refused = refused }))), same)

-- it goes no further from where its fetches lead
pub stops_there : (handed : JournalState) (job : Job) (before at : JobState) (stop : Stop) (seen : ℕ) → HasFetched handed job before at →
    (stop ≡ OutOfMemory) ⊎ (IsStop handed job at stop × (seen ≡ at.seen)) → HasStopped handed job before stop seen
stops_there handed job before at stop seen fetches (inl want) = inl want
stops_there handed job before at stop seen fetches (inr reported) = inr (record { at = at; fetches = fetches; is_stop = reported.0; sees = reported.1 })

-- a hall's refusal of a commit, as it is handed on
pub refused_so : (handed : JournalState) (ready : ReadyRun) (before after : JournalState) (result : Result Verdict CommitRefusal) (made given : CommitRefusal) → result ≡ Err made →
    made ≡ given → HasKeptStore handed before → CommitReturns (verdict_of before ready) before (Err given) after → JudgedInSomeHall handed ready result
refused_so handed ready before after result made given is same kept reported = (
  before,
  after,
  kept,
  subst (λ (r : Result Verdict CommitRefusal). CommitReturns (verdict_of before ready) before r after)
      (sym (is ∙ ap (λ (cause : CommitRefusal). Err cause) same)) reported,
)

-- what a hall answered to a commit
pub judged_so : (handed : JournalState) (ready : ReadyRun) (result outcome : Result Verdict CommitRefusal) → result ≡ outcome →
    JudgedInSomeHall handed ready result →
    JudgedInSomeHall handed ready outcome
judged_so handed ready result outcome is judged = subst (λ (r : Result Verdict CommitRefusal). JudgedInSomeHall handed ready r) is judged

-- its commit is refused
pub commit_stops : (handed : JournalState) (job : Job) (before : JobState) (ready : ReadyRun) (stop : Stop) (seen : ℕ) →
    IsEvaluated handed job before ready seen →
    (stop ≡ OutOfMemory) ⊎ IsTurnedAway handed ready stop → HasStopped handed job before stop seen
commit_stops handed job before ready stop seen evaluated (inl want) = inl want
commit_stops handed job before ready stop seen evaluated (inr refused) = inr (record {
  at = evaluated.at;
  fetches = evaluated.fetches;
  is_stop = inr (inr (record { ready = ready; is_ready = evaluated.is_ready; refused = refused }));
  sees = evaluated.sees;
})

-- ---- what comes of its verdict

pub ends_by : (handed : JournalState) (job : Job) (before : JobState) (is_last : Bool) (verdict : Verdict) (seen : ℕ) (result : Result AttemptOutcome Stop) →
    HasTried handed job before verdict seen →
    IfOk result (IfEnded (λ (end : JobEnd). (end ≡ end_after verdict) × (committed_by verdict ≡ 0 → is_last ≡ true))) →
    IfOk result (IfEnded (λ (end : JobEnd). HasEnded handed job before is_last end seen))
ends_by handed job before is_last verdict seen (Ok (Ended end)) tried reported = record { verdict = verdict; tried = tried; reported = reported.0; last = reported.1 }
ends_by handed job before is_last verdict seen (Ok (Again key)) tried reported = tt
ends_by handed job before is_last verdict seen (Err stop) tried reported = tt

pub fails_by : (handed : JournalState) (job : Job) (before : JobState) (next : AttemptState) (is_last : Bool) (verdict : Verdict) (seen : ℕ)
    (result : Result AttemptOutcome Stop) → HasTried handed job before verdict seen →
    IfOk result (IfAgain (λ (key : List ℕ). (is_last ≡ false) × IsNextAttempt job verdict next key)) →
    IfOk result (IfAgain (λ (key : List ℕ). (is_last ≡ false) × HasFailed handed job key before (state_of next seen)))
fails_by handed job before next is_last verdict seen (Ok (Ended end)) tried is_next = tt
fails_by handed job before next is_last verdict seen (Ok (Again key)) tried is_next = (is_next.0, record { verdict = verdict; tried = tried; next = is_next.1 })
fails_by handed job before next is_last verdict seen (Err stop) tried is_next = tt

pub stops_by : (handed : JournalState) (job : Job) (before : JobState) (seen : ℕ) (result : Result AttemptOutcome Stop) →
    IfErr result (λ (stop : Stop). stop ≡ OutOfMemory) →
    IfErr result (λ (stop : Stop). HasStopped handed job before stop seen)
stops_by handed job before seen (Ok tried) want = tt
stops_by handed job before seen (Err stop) want = inl want

-- a verdict after which the job goes on
pub at_again : (P : List ℕ → Type 0) (tried : AttemptOutcome) (key : List ℕ) → tried ≡ Again key → IfAgain P tried → P key
at_again P tried key is holds = subst (λ (t : AttemptOutcome). IfAgain P t) is holds

pub at_ended : (P : JobEnd → Type 0) (tried : AttemptOutcome) (end : JobEnd) → tried ≡ Ended end → IfEnded P tried → P end
at_ended P tried end is holds = subst (λ (t : AttemptOutcome). IfEnded P t) is holds

-- ---- a job

-- one more commit has failed
one_failed : (handed : JournalState) (job : Job) (keys : List (List ℕ)) (key : List ℕ) (before between after : JobState) → HaveFailed handed job keys before between →
    HasFailed handed job key between after → HaveFailed handed job (keys ++ key ∷ []) before after
one_failed handed job [] key before between after none fails = (after, subst (λ (s : JobState). HasFailed handed job key s after) none fails, refl)
one_failed handed job (first ∷ keys) key before between after (next, failed, more) fails =
    (next, failed, one_failed handed job keys key next between after more fails)

one_made : (keys : List (List ℕ)) (key : List ℕ) → attempts_of (keys ++ key ∷ []) ≡ attempts_of keys + 1
one_made [] key = refl
one_made (first ∷ keys) key = let more = one_made keys key in omega (arith, more)

-- where its attempts stand before the one with this number, from 1
abbrev pub HasLost : JournalState → Job → ℕ → ℕ → List (List ℕ) → JobState → Type 0
HasLost handed job seen number keys last = (number ≡ attempts_of keys) × HaveFailed handed job keys (state_of (begun job.level []) seen) last

pub first_is_next : (handed : JournalState) (job : Job) (seen : ℕ) (attempt : AttemptState) (keys : List (List ℕ)) → keys ≡ [] → attempt ≡ begun job.level [] →
    HasLost handed job seen 1 keys (state_of attempt seen)
first_is_next handed job seen attempt keys none is =
    subst (λ (ks : List (List ℕ)). HasLost handed job seen 1 ks (state_of attempt seen)) (sym none) (refl, ap (λ (a : AttemptState). state_of a seen) is)

pub one_lost : (handed : JournalState) (job : Job) (seen number : ℕ) (keys noted : List (List ℕ)) (key : List ℕ) (before after : JobState) →
    HasLost handed job seen number keys before → HasFailed handed job key before after → noted ≡ keys ++ key ∷ [] →
    HasLost handed job seen (number + 1) noted after
one_lost handed job seen number keys noted key before after lost fails is =
    subst (λ (ks : List (List ℕ)). HasLost handed job seen (number + 1) ks after) (sym is)
    (ap (λ (n : ℕ). n + 1) lost.0 ∙ sym (one_made keys key), one_failed handed job keys key (state_of (begun job.level []) seen) before after lost.1 fails)

comes_to : (handed : JournalState) (job : Job) (seen number : ℕ) (keys : List (List ℕ)) (last : JobState) (Then : JobState → Type 0) →
    HasLost handed job seen number keys last → number ≤ job.limit → Then last →
    ComesTo handed job seen keys Then
comes_to handed job seen number keys last Then lost within is =
    record { within = (let n = lost.0 in omega (arith, n, within)); last = last; failures = lost.1; then_is = is }

-- the attempt with this number ends the job by its verdict; the last one has the number of the limit
pub ends_at : (handed : JournalState) (job : Job) (seen number after : ℕ) (keys : List (List ℕ)) (last : JobState) (is_last : Bool) (end : JobEnd) →
    HasLost handed job seen number keys last → number ≤ job.limit →
    (is_last ≡ true → number ≡ job.limit) → HasEnded handed job last is_last end after →
    ComesTo handed job seen keys (EndsByVerdict handed job end after (attempts_of keys))
ends_at handed job seen number after keys last is_last end lost within of_last ended =
    comes_to handed job seen number keys last (EndsByVerdict handed job end after (attempts_of keys)) lost within
    (record { verdict = ended.verdict; tried = ended.tried; reported = ended.reported; last = λ none. sym lost.0 ∙ of_last (ended.last none) })

-- it goes no further
pub stops_at : (handed : JournalState) (job : Job) (seen number after : ℕ) (keys : List (List ℕ)) (last : JobState) (stop : Stop) →
    HasLost handed job seen number keys last → number ≤ job.limit →
    HasStopped handed job last stop after → ComesTo handed job seen keys (λ at. HasStopped handed job at stop after)
stops_at handed job seen number after keys last stop lost within stopped =
    comes_to handed job seen number keys last (λ at. HasStopped handed job at stop after) lost within stopped

-- which is the job's end, unless memory ran out
stop_ends : (handed : JournalState) (job : Job) (end : JobEnd) (after : ℕ) (last : JobState) (stop : Stop) → job_end_reported stop ≡ Some end →
    HasStopped handed job last stop after →
    EndsByStop handed job end after last
stop_ends handed job end after last stop reported (inl want) =
    let none : None ≡ Some end = sym (ap job_end_reported want) ∙ reported in absurd (cc)
stop_ends handed job end after last stop reported (inr stopped) = record { stop = stop; stopped = stopped; reported = reported }

pub ends_by_stop : (handed : JournalState) (job : Job) (seen after : ℕ) (lost : List (List ℕ)) (stop : Stop) (end : JobEnd) → job_end_reported stop ≡ Some end →
    ComesTo handed job seen lost (λ last. HasStopped handed job last stop after) → HasCome handed job seen end after lost
ends_by_stop handed job seen after lost stop end reported came = inr (record {
  within = came.within;
  last = came.last;
  failures = came.failures;
  then_is = stop_ends handed job end after came.last stop reported came.then_is;
})
