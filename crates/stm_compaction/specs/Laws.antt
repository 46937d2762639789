-- The laws of a store that has dropped its revisions below the floor, each carried by a function of `src/laws.rt`: what it shows and what
-- each call of it comes to are what they are in the whole store.
use Rattle.std.specs.Prelude.{◌≡◌, ℕ, ◌≤◌, List, None}
use Rattle.stm_history.specs.declared.change.Change.{Change}
use Rattle.stm_history.specs.History.{now}
use Rattle.stm_watch.specs.declared.watched.Watched.{Watched}
use Rattle.stm_outcome.specs.declared.txn.Txn.{Txn}
use Rattle.stm_outcome.specs.declared.advance.Expired.{Expired}
use Rattle.stm_outcome.specs.declared.refusal.Refusal.{Refusal}
use Rattle.stm_txn.specs.Standing.{Standing, HasKept, kept, transacted, written, granted, kept_alive, revoked, at_moment, expire_up_to, advanced, HasCome}
use Rattle.stm_txn.specs.Standing.{IsCutShort, watched, polled, poll_refused, cancelled, raised, compacted}
use Rattle.stm_attempt.specs.ReadyRun.{ReadyRun}
use Rattle.stm_journal.specs.JournalState.{JournalState}
use Rattle.stm_journal.specs.Verdicts.{sent}
use Rattle.stm_journal.specs.Fetched.{fetch_reported, fetch_all_reported}
use Rattle.stm_compaction.specs.Kept.{kept_step, kept_advance, kept_journal, kept_journal_step}
use Rattle.stm_compaction.specs.Shows.{ShowsTheSame}
use Rattle.stm_compaction.specs.Advanced.{ComesToo, IsCutShortToo}

abbrev pub KeptShowsTheSame : Type 0
KeptShowsTheSame = (s : Standing) → s.floor ≤ now s.history → ShowsTheSame s.floor (kept s).history s.history

-- ---- transactions, and what runners ask

abbrev pub KeptTransacts : Type 0
KeptTransacts = (s : Standing) (txn : Txn) → s.floor ≤ now s.history → transacted (kept s) txn ≡ kept_step (transacted s txn)

abbrev pub KeptWrites : Type 0
KeptWrites = (s : Standing) (writes : List Change) → s.floor ≤ now s.history → written (kept s) writes ≡ kept_step (written s writes)

abbrev pub KeptFetches : Type 0
KeptFetches = (s : Standing) (key : List ℕ) (at : ℕ) → s.floor ≤ now s.history → fetch_reported (kept s) key at ≡ fetch_reported s key at

abbrev pub KeptListFetches : Type 0
KeptListFetches = (s : Standing) (keys : List (List ℕ)) → s.floor ≤ now s.history → fetch_all_reported (kept s) keys ≡ fetch_all_reported s keys

abbrev pub KeptCommits : Type 0
KeptCommits =
    (journal : JournalState) (ready : ReadyRun) → journal.standing.floor ≤ now journal.standing.history
    → sent (kept_journal journal) ready ≡ kept_journal_step (sent journal ready)

-- ---- leases

abbrev pub KeptGrants : Type 0
KeptGrants = (s : Standing) (id ttl : ℕ) → granted (kept s) id ttl ≡ kept_step (granted s id ttl)

abbrev pub KeptRenews : Type 0
KeptRenews = (s : Standing) (id : ℕ) → kept_alive (kept s) id ≡ kept_step (kept_alive s id)

abbrev pub KeptRevokes : Type 0
KeptRevokes = (s : Standing) (id : ℕ) → s.floor ≤ now s.history → revoked (kept s) id ≡ kept_step (revoked s id)

abbrev pub KeptExpires : Type 0
KeptExpires = (s : Standing) (many : ℕ) → s.floor ≤ now s.history → expire_up_to many (kept s) ≡ kept_advance (expire_up_to many s)

abbrev pub KeptAdvances : Type 0
KeptAdvances = (s : Standing) (moment : ℕ) → s.floor ≤ now s.history → advanced (kept s) moment ≡ kept_advance (advanced s moment)

-- From what an advance has come to follows what that of the whole store has come to,
abbrev pub KeptAdvanceComes : Type 0
KeptAdvanceComes =
    (s : Standing) (moment : ℕ) (expired : List Expired) (left : Standing) → s.floor ≤ now s.history
    → advanced (kept s) moment ≡ record { expired = expired; leaves = left; cause = None }
    → HasCome (at_moment (kept s) moment) expired left → ComesToo s moment expired left

-- also where it was cut short.
abbrev pub KeptAdvanceIsCutShort : Type 0
KeptAdvanceIsCutShort =
    (s : Standing) (moment : ℕ) (expired : List Expired) (cause : Refusal) (left : Standing) → s.floor ≤ now s.history
    → (s.moment ≤ moment → HasCome (at_moment (kept s) moment) expired left) → IsCutShort (advanced (kept s) moment) expired cause left
    → IsCutShortToo s moment expired cause left

-- ---- watchers

abbrev pub KeptWatches : Type 0
KeptWatches = (s : Standing) (keys : Watched) (from : ℕ) → s.floor ≤ now s.history → watched (kept s) keys from ≡ kept_step (watched s keys from)

abbrev pub KeptPolls : Type 0
KeptPolls = (s : Standing) (id most : ℕ) → HasKept s → polled (kept s) id most ≡ kept_step (polled s id most)

abbrev pub KeptPollRefused : Type 0
KeptPollRefused = (s : Standing) (id : ℕ) → poll_refused (kept s) id ≡ kept (poll_refused s id)

abbrev pub KeptCancels : Type 0
KeptCancels = (s : Standing) (id : ℕ) → cancelled (kept s) id ≡ kept_step (cancelled s id)

-- ---- compaction

-- A compaction drops what a higher floor of the whole store does.
abbrev pub KeptCompacts : Type 0
KeptCompacts = (s : Standing) (revision : ℕ) → HasKept s → compacted (kept s) revision ≡ kept_step (raised s revision)
