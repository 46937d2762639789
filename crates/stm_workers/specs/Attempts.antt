-- What a worker does for a job, from its first attempt to its end: between its calls of the hall, of which each is made in some hall, since others
-- come to it in between. That hall has the store of the one that was handed in, `handed`, but for its history: its limit of operations and its floor
-- are the same.
--
-- The documentation of the Go package `clientv3/concurrency`, "STM": a transaction whose commit fails is run again, on what was read again then. That
-- a fetch says what its worker has seen, how many commits a job may send, and what its end reports, is our own.
use Rattle.std.specs.Prelude.{◌≡◌, ◌⊎◌, ℕ, zero, suc, ◌≤◌, Bool, true, false, List, [], ◌∷◌, Option, None, Some, Ok, Err}
use Rattle.stm_history.specs.declared.key_state.ReadAnswer.{ReadAnswer}
use Rattle.stm_steps.specs.declared.run.End.{End}
use Rattle.stm_steps.specs.declared.run.End.TheVariants.{Aborted as AbortedEnd, Faulted as FaultedEnd}
use Rattle.stm_steps.specs.declared.run.Run.{Run}
use Rattle.stm_steps.specs.declared.run.Answered.TheVariants.{Ended as EndedRun}
use Rattle.stm_outcome.specs.declared.answer.OpAnswer.TheVariants.{Get as GetAnswer}
use Rattle.stm_outcome.specs.declared.answer.TxnAnswer.{TxnAnswer}
use Rattle.stm_outcome.specs.declared.refusal.Refusal.TheVariants.{OutOfMemory as OutOfMemoryRefusal}
use Rattle.stm_attempt.specs.declared.next.Next.TheVariants.{FetchAll, Fetch, Ready}
use Rattle.stm_attempt.specs.AttemptState.{AttemptState, begun, begun_after, advanced, supplied, supplied_all}
use Rattle.stm_attempt.specs.Next.{next_of}
use Rattle.stm_attempt.specs.ReadyRun.{ReadyRun}
use Rattle.stm_attempt.specs.Settled.{run_on}
use Rattle.stm_attempt.specs.Entering.{is_due, gone_on}
use Rattle.stm_journal.specs.Fetched.{fetch_of, fetch_all_of}
use Rattle.stm_journal.specs.Reads.{reads_in}
use Rattle.stm_journal.specs.declared.refusal.FetchRefusal.{FetchRefusal}
use Rattle.stm_journal.specs.declared.refusal.FetchRefusal.TheVariants.{Behind as FetchBehind, Store as FetchRefused}
use Rattle.stm_journal.specs.declared.refusal.CommitRefusal.{CommitRefusal}
use Rattle.stm_journal.specs.declared.refusal.CommitRefusal.TheVariants.{Unvouched as CommitUnvouched, Store as CommitRefused}
use Rattle.stm_journal.specs.JournalState.{JournalState}
use Rattle.stm_journal.specs.declared.verdict.Verdict.{Verdict}
use Rattle.stm_journal.specs.declared.verdict.Verdict.TheVariants.{Committed, Failed}
use Rattle.stm_job.specs.Ends.{attempts_of}
use Rattle.stm_job.specs.declared.job.Job.{Job}
use Rattle.stm_job.specs.declared.job_end.JobEnd.{JobEnd}
use Rattle.stm_job.specs.declared.job_end.JobEnd.TheVariants.{Committed as CommittedJob, Aborted as AbortedJob, Faulted as FaultedJob, Refused as RefusedJob}
use Rattle.stm_job.specs.declared.job_end.JobEnd.TheVariants.{GaveUp}
use Rattle.stm_job.specs.declared.job_end.JobRefusal.TheVariants.{Store, Behind, Unvouched}
use Rattle.stm_workers.specs.declared.stop.Stop.{Stop}
use Rattle.stm_workers.specs.declared.stop.Stop.TheVariants.{OutOfMemory, Aborted, Faulted, Refused}
use Rattle.stm_workers.specs.Calls.{AnswersInSomeHall, JudgedInSomeHall, committed_by, seen_after}

-- ---- what a stop reports

-- the end of a run
abbrev pub end_reported : Stop → Option End
end_reported OutOfMemory = None
end_reported (Aborted text reads) = Some (AbortedEnd text)
end_reported (Faulted fault reads) = Some (FaultedEnd fault)
end_reported (Refused refusal) = None

-- and what that was on
abbrev pub reads_reported : Stop → Option (List ReadAnswer)
reads_reported OutOfMemory = None
reads_reported (Aborted text reads) = Some reads
reads_reported (Faulted fault reads) = Some reads
reads_reported (Refused refusal) = None

-- the hall's refusal of a fetch
abbrev pub fetch_refusal_reported : Stop → Option FetchRefusal
fetch_refusal_reported OutOfMemory = Some (FetchRefused OutOfMemoryRefusal)
fetch_refusal_reported (Refused (Store refusal)) = Some (FetchRefused refusal.cause)
fetch_refusal_reported (Refused (Behind seen now)) = Some (FetchBehind seen now)
fetch_refusal_reported (Refused (Unvouched key)) = None
fetch_refusal_reported (Aborted text reads) = None
fetch_refusal_reported (Faulted fault reads) = None

-- the hall's refusal of a commit
abbrev pub commit_refusal_reported : Stop → Option CommitRefusal
commit_refusal_reported OutOfMemory = Some (CommitRefused OutOfMemoryRefusal)
commit_refusal_reported (Refused (Store refusal)) = Some (CommitRefused refusal.cause)
commit_refusal_reported (Refused (Behind seen now)) = None
commit_refusal_reported (Refused (Unvouched key)) = Some (CommitUnvouched key)
commit_refusal_reported (Aborted text reads) = None
commit_refusal_reported (Faulted fault reads) = None

-- the end of a job, which out of memory is not
abbrev pub job_end_reported : Stop → Option JobEnd
job_end_reported OutOfMemory = None
job_end_reported (Aborted text reads) = Some (AbortedJob text reads)
job_end_reported (Faulted fault reads) = Some (FaultedJob fault reads)
job_end_reported (Refused refusal) = Some (RefusedJob refusal)

-- the end of a job by the verdict on its last commit
abbrev pub end_after : Verdict → JobEnd
end_after (Committed index revision) = CommittedJob index revision
end_after (Failed key seen modified answers) = GaveUp key

-- ---- one attempt

-- how far a job has come: its attempt, and the greatest revision that an answer to its worker carried
pub record JobState : Type 0 where
  pub attempt : AttemptState
  pub seen : ℕ

abbrev pub state_of : AttemptState → ℕ → JobState
state_of attempt seen = record { attempt = attempt; seen = seen }

-- a hall that was asked for a key at a revision, by who has seen this, answered so
pub record IsAnswered (handed : JournalState) (seen : ℕ) (key : List ℕ) (at : ℕ) (answer : ReadAnswer) : Type 0 where
  pub reported : TxnAnswer
  pub by_hall : AnswersInSomeHall handed seen (fetch_of key at) (Ok reported)
  pub is_read : reported.answers ≡ GetAnswer answer ∷ []

-- it refused, as the stop reports
pub record IsUnanswered (handed : JournalState) (seen : ℕ) (key : List ℕ) (at : ℕ) (stop : Stop) : Type 0 where
  pub cause : FetchRefusal
  pub by_hall : AnswersInSomeHall handed seen (fetch_of key at) (Err cause)
  pub reported : fetch_refusal_reported stop ≡ Some cause

-- a hall that was asked for the keys of a list, by who has seen this, answered so, and carried this revision
pub record AreAnswered (handed : JournalState) (seen : ℕ) (keys : List (List ℕ)) (answers : List ReadAnswer) (revision : ℕ) : Type 0 where
  pub reported : TxnAnswer
  pub by_hall : AnswersInSomeHall handed seen (fetch_all_of keys) (Ok reported)
  pub are_read : answers ≡ reads_in reported.answers
  pub carries : revision ≡ reported.revision

-- it refused, as the stop reports
pub record AreUnanswered (handed : JournalState) (seen : ℕ) (keys : List (List ℕ)) (stop : Stop) : Type 0 where
  pub cause : FetchRefusal
  pub by_hall : AnswersInSomeHall handed seen (fetch_all_of keys) (Err cause)
  pub reported : fetch_refusal_reported stop ≡ Some cause

-- a hall refused the commit of a ready attempt, as the stop reports
pub record IsTurnedAway (handed : JournalState) (ready : ReadyRun) (stop : Stop) : Type 0 where
  pub cause : CommitRefusal
  pub by_hall : JudgedInSomeHall handed ready (Err cause)
  pub reported : commit_refusal_reported stop ≡ Some cause

-- A fetch of a key: the attempt wants a key at a revision; that is asked for, with exactly what was seen; and the attempt goes on with the answer,
-- whose revision is what was seen then.
pub record IsKeyFetch (handed : JournalState) (job : Job) (before after : JobState) : Type 0 where
  pub key : List ℕ
  pub at : ℕ
  pub wants : next_of job.program before.attempt.level before.attempt.known ≡ Fetch key at
  pub answer : ReadAnswer
  pub answered : IsAnswered handed before.seen key at answer
  pub goes_on : after.attempt ≡ supplied answer (advanced job.program before.attempt)
  pub sees : after.seen ≡ answer.revision

-- A fetch of a list: the attempt wants its keys; all are asked for at once, with exactly what was seen; and the attempt goes on with the answers.
pub record IsListFetch (handed : JournalState) (job : Job) (before after : JobState) : Type 0 where
  pub keys : List (List ℕ)
  pub at : ℕ
  pub wants : next_of job.program before.attempt.level before.attempt.known ≡ FetchAll keys at
  pub answers : List ReadAnswer
  pub answered : AreAnswered handed before.seen keys answers after.seen
  pub goes_on : after.attempt ≡ supplied_all answers (advanced job.program before.attempt)

abbrev pub IsFetch : JournalState → Job → JobState → JobState → Type 0
IsFetch handed job before after = IsKeyFetch handed job before after ⊎ IsListFetch handed job before after

-- this many fetches, one after the other
abbrev pub AreFetches : JournalState → Job → ℕ → JobState → JobState → Type 0
AreFetches handed job zero before after = after ≡ before
AreFetches handed job (suc n) before after = (between : JobState) × AreFetches handed job n before between × IsFetch handed job between after

abbrev pub HasFetched : JournalState → Job → JobState → JobState → Type 0
HasFetched handed job before after = (n : ℕ) × AreFetches handed job n before after

-- the attempt is ready to commit
abbrev pub IsReadyAt : Job → JobState → ReadyRun → Type 0
IsReadyAt job at ready = next_of job.program at.attempt.level at.attempt.known ≡ Ready ready

-- after some fetches it is
pub record IsEvaluated (handed : JournalState) (job : Job) (before : JobState) (ready : ReadyRun) (seen : ℕ) : Type 0 where
  pub at : JobState
  pub fetches : HasFetched handed job before at
  pub is_ready : IsReadyAt job at ready
  pub sees : seen ≡ at.seen

-- and this is the verdict on it, of which the revisions are seen
pub record HasTried (handed : JournalState) (job : Job) (before : JobState) (verdict : Verdict) (seen : ℕ) : Type 0 where
  pub ready : ReadyRun
  pub fetched : ℕ
  pub evaluated : IsEvaluated handed job before ready fetched
  pub by_hall : JudgedInSomeHall handed ready (Ok verdict)
  pub sees : seen ≡ seen_after fetched verdict

-- ---- an attempt without a verdict

-- the program has come to an end other than its last statement, on what the attempt has read, which has its list
pub record IsEndOfRun (job : Job) (at : JobState) (stop : Stop) : Type 0 where
  pub run : Run
  pub has_list : is_due job.program.prefetch (gone_on job.program at.attempt.known) ≡ false
  pub is_run : run_on job.program (gone_on job.program at.attempt.known) ≡ EndedRun run
  pub reported : end_reported stop ≡ Some run.end
  pub reads : reads_reported stop ≡ Some (gone_on job.program at.attempt.known)

-- the key that it wants is refused
pub record IsKeyRefused (handed : JournalState) (job : Job) (at : JobState) (stop : Stop) : Type 0 where
  pub key : List ℕ
  pub of_rev : ℕ
  pub wants : next_of job.program at.attempt.level at.attempt.known ≡ Fetch key of_rev
  pub refused : IsUnanswered handed at.seen key of_rev stop

-- or its list
pub record IsListRefused (handed : JournalState) (job : Job) (at : JobState) (stop : Stop) : Type 0 where
  pub keys : List (List ℕ)
  pub of_rev : ℕ
  pub wants : next_of job.program at.attempt.level at.attempt.known ≡ FetchAll keys of_rev
  pub refused : AreUnanswered handed at.seen keys stop

abbrev pub IsFetchRefused : JournalState → Job → JobState → Stop → Type 0
IsFetchRefused handed job at stop = IsKeyRefused handed job at stop ⊎ IsListRefused handed job at stop

-- its commit is
pub record IsCommitRefused (handed : JournalState) (job : Job) (at : JobState) (stop : Stop) : Type 0 where
  pub ready : ReadyRun
  pub is_ready : IsReadyAt job at ready
  pub refused : IsTurnedAway handed ready stop

-- it goes no further from here, for one of these
abbrev pub IsStop : JournalState → Job → JobState → Stop → Type 0
IsStop handed job at stop = IsEndOfRun job at stop ⊎ IsFetchRefused handed job at stop ⊎ IsCommitRefused handed job at stop

pub record StopsAt (handed : JournalState) (job : Job) (before : JobState) (stop : Stop) (seen : ℕ) : Type 0 where
  pub at : JobState
  pub fetches : HasFetched handed job before at
  pub is_stop : IsStop handed job at stop
  pub sees : seen ≡ at.seen

-- after some fetches it goes no further, or memory was wanted somewhere
abbrev pub HasStopped : JournalState → Job → JobState → Stop → ℕ → Type 0
HasStopped handed job before stop seen = (stop ≡ OutOfMemory) ⊎ StopsAt handed job before stop seen

-- ---- a job

-- the attempt after a commit that failed, over this key
abbrev pub IsNextAttempt : Job → Verdict → AttemptState → List ℕ → Type 0
IsNextAttempt job (Committed index revision) next key = ⊥
IsNextAttempt job (Failed failed seen modified answers) next key = (next ≡ begun_after job.level answers) × (key ≡ failed)

-- an attempt whose commit failed over this key, and where the next one begins
pub record HasFailed (handed : JournalState) (job : Job) (key : List ℕ) (before after : JobState) : Type 0 where
  pub verdict : Verdict
  pub tried : HasTried handed job before verdict after.seen
  pub next : IsNextAttempt job verdict after.attempt key

-- those over these keys, one after the other
abbrev pub HaveFailed : JournalState → Job → List (List ℕ) → JobState → JobState → Type 0
HaveFailed handed job [] before after = after ≡ before
HaveFailed handed job (key ∷ keys) before after =
    (between : JobState) × HasFailed handed job key before between × HaveFailed handed job keys between after

-- an attempt, the last one or not, that ends its job by the verdict on its commit: the commit was made, or no attempt comes after it
pub record HasEnded (handed : JournalState) (job : Job) (before : JobState) (is_last : Bool) (end : JobEnd) (seen : ℕ) : Type 0 where
  pub verdict : Verdict
  pub tried : HasTried handed job before verdict seen
  pub reported : end ≡ end_after verdict
  pub last : committed_by verdict ≡ 0 → is_last ≡ true

-- A job has come to an attempt of which this is so, after its commits have failed over exactly these keys: it has made one attempt more, at most as many as
-- the commits that it may send. The first attempt begins with nothing prefetched.
pub record ComesTo (handed : JournalState) (job : Job) (seen : ℕ) (lost : List (List ℕ)) (Then : JobState → Type 0) : Type 0 where
  pub within : attempts_of lost ≤ job.limit
  pub last : JobState
  pub failures : HaveFailed handed job lost (state_of (begun job.level []) seen) last
  pub then_is : Then last

-- the end by the verdict on a commit: it was made, or it failed and was the last one that the job may send
pub record EndsByVerdict (handed : JournalState) (job : Job) (end : JobEnd) (seen attempts : ℕ) (before : JobState) : Type 0 where
  pub verdict : Verdict
  pub tried : HasTried handed job before verdict seen
  pub reported : end ≡ end_after verdict
  pub last : committed_by verdict ≡ 0 → attempts ≡ job.limit

-- the end by an attempt that goes no further
pub record EndsByStop (handed : JournalState) (job : Job) (end : JobEnd) (seen : ℕ) (before : JobState) : Type 0 where
  pub stop : Stop
  pub stopped : StopsAt handed job before stop seen
  pub reported : job_end_reported stop ≡ Some end

-- A job that was begun by a worker which had seen the one revision has come to this end after commits that failed over these keys, and the other was seen
-- then. It has sent at most as many commits as it may; and it gave up only where it has sent exactly that many, which all failed.
abbrev pub HasCome : JournalState → Job → ℕ → JobEnd → ℕ → List (List ℕ) → Type 0
HasCome handed job seen end after lost =
    ComesTo handed job seen lost (EndsByVerdict handed job end after (attempts_of lost)) ⊎ ComesTo handed job seen lost (EndsByStop handed job end after)

-- the same, whatever its worker had seen before and after
abbrev pub HasSomeRun : JournalState → Job → JobEnd → List (List ℕ) → Type 0
HasSomeRun handed job end lost = ∥ ((seen : ℕ) × (after : ℕ) × HasCome handed job seen end after lost) ∥₁
