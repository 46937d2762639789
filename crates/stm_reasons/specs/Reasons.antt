-- Why commits failed, and on what commits went through that no longer was so.
--
-- A run of events is given by the history that it left, the store's revision before its first event and after each, and its replies.
use Rattle.std.specs.Prelude.{ℕ, suc, max, nat_eq, if◌then◌else◌, List, [], ◌∷◌, ◌++◌, get_or, Option, Some, None, Result, Ok, Err}
use Rattle.stm_history.specs.History.{History, mod_of}
use Rattle.stm_events.specs.declared.reply.Reply.{Reply}
use Rattle.stm_events.specs.declared.reply.Reply.TheVariants.{Committed, Conflict as ConflictReply, GaveUp as GaveUpReply}
use Rattle.stm_events.specs.declared.reply.CommittedRead.{CommittedRead}
use Rattle.stm_events.specs.declared.refusal.Denied.{Denied}
use Rattle.stm_reasons.specs.declared.looks.Look.{Look}
use Rattle.stm_reasons.specs.declared.reason.Cause.{Cause}
use Rattle.stm_reasons.specs.declared.reason.Ending.{Ending}
use Rattle.stm_reasons.specs.declared.reason.Ending.TheVariants.{Conflict, GaveUp, Stale}
use Rattle.stm_reasons.specs.declared.reason.Reason.{Reason}
use Rattle.stm_reasons.specs.Counters.{counters}
use Rattle.stm_reasons.specs.Looks.{last_look}
use Rattle.stm_reasons.specs.Causes.{state_by, cause}

-- ---- a commit that failed

-- the first change of the key since its runner saw it: what was read of a key is as of its modification revision or later
abbrev pub failure : History → List ℕ → List (Result Reply Denied) → ℕ → Ending → ℕ → List ℕ → ℕ → Look → Reason
failure h counters replies before ending runner key seen look = record {
  event = suc before;
  runner = runner;
  ending = ending;
  key = key;
  seen = seen;
  read = look.event;
  cause = cause h key counters replies (max look.revision seen) before;
}

-- why the commit of a runner failed after that many events: the key of the compare that failed, when the runner had seen it, and what has changed it since
abbrev pub failed : History → List ℕ → List (Result Reply Denied) → ℕ → Ending → ℕ → List ℕ → ℕ → Reason
failed h counters replies before ending runner key seen =
    failure h counters replies before ending runner key seen (last_look runner key counters replies before)

-- ---- a commit that went through

-- The modification revision of a key just before the event after that many. A level that compares refuses a commit that was made on another one.
abbrev pub modified_before : History → List ℕ → ℕ → List ℕ → ℕ
modified_before h counters before key = mod_of (state_by h key (get_or counters before 0))

-- a read that a commit was made on, whose key has changed since
abbrev pub stale_read : List ℕ → List (Result Reply Denied) → ℕ → ℕ → CommittedRead → Cause → Reason
stale_read counters replies before runner answer change = record {
  event = suc before;
  runner = runner;
  ending = Stale;
  key = answer.key;
  seen = answer.mod_rev;
  read = (last_look runner answer.key counters replies before).event;
  cause = Some change;
}

-- it is told where the key is not as it was read
abbrev pub if_stale : History → List ℕ → List (Result Reply Denied) → ℕ → ℕ → CommittedRead → Option Cause → List Reason
if_stale h counters replies before runner answer None = []
if_stale h counters replies before runner answer (Some change) =
    if nat_eq (modified_before h counters before answer.key) answer.mod_rev then [] else stale_read counters replies before runner answer change ∷ []

abbrev pub stale_reads : History → List ℕ → List (Result Reply Denied) → ℕ → ℕ → List CommittedRead → List Reason
stale_reads h counters replies before runner [] = []
stale_reads h counters replies before runner (answer ∷ answers) =
    if_stale h counters replies before runner answer (cause h answer.key counters replies answer.of_rev before)
    ++ stale_reads h counters replies before runner answers

-- ---- the whole

-- what there is to tell of the reply to the event after that many
abbrev pub reasons_at : History → List ℕ → List (Result Reply Denied) → ℕ → Result Reply Denied → List Reason
reasons_at h counters replies before (Ok (ConflictReply runner key seen now)) = failed h counters replies before Conflict runner key seen ∷ []
reasons_at h counters replies before (Ok (GaveUpReply runner attempts key seen now)) = failed h counters replies before GaveUp runner key seen ∷ []
reasons_at h counters replies before (Ok (Committed runner revision attempts output trace answers)) =
    stale_reads h counters replies before runner answers
reasons_at h counters replies before (Ok other) = []
reasons_at h counters replies before (Err denied) = []

-- that of these replies, the first of them to the event after that many
abbrev pub reasons_from : History → List ℕ → List (Result Reply Denied) → ℕ → List (Result Reply Denied) → List Reason
reasons_from h counters replies before [] = []
reasons_from h counters replies before (reply ∷ later) =
    reasons_at h counters replies before reply ++ reasons_from h counters replies (suc before) later

-- that of a run whose store was at a revision before it, and has this history since, in the order of the events
abbrev pub reasons_of : History → ℕ → List (Result Reply Denied) → List Reason
reasons_of h opened replies = reasons_from h (counters opened replies) replies 0 replies
