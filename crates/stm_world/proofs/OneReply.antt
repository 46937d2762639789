-- There is one right reply to an event after a log.
use Rattle.std.proofs.Common.{◌≡◌, ℕ, ◌+◌, List, [], ◌∷◌, length, map, reverse, Option, Some, None, Ok, Err, Bool, true, false, refl, sym, ◌∙◌, ap, arith}
use Rattle.std.proofs.lemmas.List.{reverse-reverse}
use Rattle.std.proofs.lemmas.Bool.{lt-ltb, le-ltb, Decides.nat_tests}
use Rattle.std.specs.Prelude.{nat_lt, slice_get, Result}
use Rattle.stm_history.specs.History.{now, key_at, mod_of}
use Rattle.stm_program.specs.Writes.{latest_writes}
use Rattle.stm_steps.specs.declared.run.End.{End}
use Rattle.stm_steps.specs.declared.run.End.TheVariants.{Done as DoneEnd, Aborted as AbortedEnd, Faulted as FaultedEnd}
use Rattle.stm_steps.specs.declared.run.Run.{Run}
use Rattle.stm_steps.specs.declared.run.Answered.{Answered}
use Rattle.stm_steps.specs.declared.run.Answered.TheVariants.{Ended as EndedRun, Wants}
use Rattle.stm_outcome.specs.declared.answer.FailedCompare.{FailedCompare}
use Rattle.stm_outcome.specs.declared.refusal.Refusal.{Refusal as StoreRefusal}
use Rattle.stm_outcome.specs.declared.refusal.Refusal.TheVariants.{TooManyOps as TooManyOpsRefusal, Compacted as CompactedRefusal}
use Rattle.stm_outcome.specs.Outcome.{Done}
use Rattle.stm_outcome.specs.Commits.{revision_read}
use Rattle.stm_txn.specs.Standing.{terms_of, Setup}
use Rattle.stm_outcome.specs.Terms.{is_below_floor}
use Rattle.stm_compile.specs.Committed.{committed}
use Rattle.stm_compile.specs.Conflicts.{Seen, seen_by, seen_in}
use Rattle.stm_attempt.specs.Settled.{run_on}
use Rattle.stm_attempt.specs.Entering.{is_due}
use Rattle.stm_attempt.specs.Fetches.{at_of}
use Rattle.stm_events.specs.declared.event.WorldEvent.{WorldEvent}
use Rattle.stm_events.specs.declared.reply.Reply.{Reply}
use Rattle.stm_events.specs.declared.reply.Reply.TheVariants.{Prefetched, Fetched, Committed, Conflict, GaveUp, Aborted, Faulted, Ended}
use Rattle.stm_events.specs.declared.refusal.Denied.{Denied}
use Rattle.stm_events.specs.Replies.{committed_read, event_refusal}
use Rattle.stm_events.specs.Called.{Asked, asked}
use Rattle.stm_world.specs.Task.{Task, modified_now}
use Rattle.stm_entries.specs.Entered.{answers_kept}
use Rattle.stm_world.specs.Log.{Line, IsLogOf}
use Rattle.stm_world.specs.Right.{Situation, Commits, IsConflicted, IsRefused, ReplyIsRight, RunnerIsRight, IsRightAsked, IsRight, AreRight}
use Rattle.stm_world.specs.World.{opened, replies_to}
use Rattle.stm_world.specs.Headline.{Headline}
use Rattle.stm_world.specs.OneReply.{OneRightReply}

-- ---- the reply to the step of a runner, by what its program's run comes to ----

abbrev by_limit : Situation → Seen → ℕ → Bool → Reply
by_limit at seen modified true = Conflict at.id seen.key seen.mod_rev modified
by_limit at seen modified false = GaveUp at.id (at.failures + 1) seen.key seen.mod_rev modified

abbrev by_compare : Situation → Run → Done → Option FailedCompare → Reply
by_compare at run done None = Committed at.id (now done.history) (at.failures + 1) run.output run.trace
    (map committed_read (answers_kept at.task.level at.reads))
by_compare at run done (Some failed) =
    by_limit at (seen_in (slice_get (seen_by at.reads (latest_writes run.writes)) failed.index)) failed.mod_rev (nat_lt (at.failures + 1) at.task.limit)

abbrev by_commit : Situation → Run → Result Done StoreRefusal → Reply
by_commit at run (Ok done) = by_compare at run done done.answer.failed
by_commit at run (Err cause) = Ended at.id (event_refusal cause)

abbrev by_end : Situation → Run → End → Reply
by_end at run DoneEnd = by_commit at run (committed (terms_of at.store) at.task.level at.reads run)
by_end at run (AbortedEnd text) = Aborted at.id text
by_end at run (FaultedEnd fault) = Faulted at.id fault

abbrev fetched_at : Situation → List ℕ → ℕ → Reply
fetched_at at key of_rev = Fetched at.id key (mod_of (key_at at.store.history key of_rev)) of_rev (now at.store.history)

-- by whether the base is compacted
abbrev by_base : Situation → List ℕ → Bool → Reply
by_base at key true = Ended at.id (event_refusal CompactedRefusal)
by_base at key false = fetched_at at key (revision_read at.store.history (at_of at.task.level at.reads))

abbrev by_run : Situation → Answered → Reply
by_run at (Wants key trace) = by_base at key (is_below_floor at.store.floor (at_of at.task.level at.reads))
by_run at (EndedRun run) = by_end at run run.end

-- by whether the list has too many keys
abbrev by_count : Situation → Bool → Reply
by_count at true = Ended at.id (event_refusal TooManyOpsRefusal)
by_count at false = Prefetched at.id (now at.store.history) (map (modified_now at.store.history) at.task.program.prefetch)

-- and by whether it is due
abbrev by_list : Situation → Bool → Reply
by_list at true = by_count at (nat_lt at.store.limit (length at.task.program.prefetch))
by_list at false = by_run at (run_on at.task.program at.reads)

abbrev reply_at : Situation → Reply
reply_at at = by_list at (is_due at.task.program.prefetch at.reads)

-- what a commit comes to decides the reply
by_outcome : (at : Situation) (o : Result Done StoreRefusal) (c : Commits at o) → reply_at at ≡ by_commit at c.run o
by_outcome at o c = ap (by_list at) c.has_list ∙ ap (by_run at) c.is_run ∙ ap (by_end at c.run) c.is_done ∙ ap (by_commit at c.run) c.comes_to

by_conflict : (at : Situation) (key : List ℕ) (seen now_modified : ℕ) (c : IsConflicted at key seen now_modified) (more : Bool) →
    nat_lt (at.failures + 1) at.task.limit ≡ more → reply_at at ≡ by_limit at c.conflict.seen c.failed.mod_rev more
by_conflict at key seen now_modified c more left = grind (arith, nat_tests, by_outcome)

-- so does the refusal of what the step asks of the store
by_refusal : (at : Situation) (cause : StoreRefusal) → IsRefused at cause → reply_at at ≡ Ended at.id (event_refusal cause)
by_refusal at cause h3 = grind (arith, nat_tests, by_outcome, lt-ltb)

one_reply : (at : Situation) (reply : Reply) → ReplyIsRight at reply → reply ≡ reply_at at
one_reply at reply right = grind (arith, nat_tests, le-ltb, by_outcome, by_conflict, lt-ltb, by_refusal)

-- ---- the other events ----

runner_by : (start : Setup) (log : List Line) (id : ℕ) (o : Option Task) (a b : Result Reply Denied) → RunnerIsRight start log id o a →
    RunnerIsRight start log id o b → a ≡ b
runner_by start log id o a b first second = grind (arith, nat_tests, one_reply)

one_asked : (start : Setup) (log : List Line) (asks : Asked) (a b : Result Reply Denied) → IsRightAsked start log asks a → IsRightAsked start log asks b → a ≡ b
one_asked start log asks a b first second = grind (arith, nat_tests, runner_by)

pub one_right : (start : Setup) (log : List Line) (event : WorldEvent) (a b : Result Reply Denied) → IsRight start log event a → IsRight start log event b → a ≡ b
one_right start log event a b first second = one_asked start log (asked event) a b first second

-- ---- whole logs ----

-- a line of this event has this reply
right_line : (start : Setup) (log : List Line) (event : WorldEvent) (reply : Result Reply Denied) (line : Line) → line.event ≡ event →
    IsRight start log event reply → IsRight start log line.event line.reply → reply ≡ line.reply
right_line start log event reply line same first second = grind (arith, nat_tests, one_right)

same_right : (start : Setup) (a b : List Line) → AreRight start a → AreRight start b →
    map (λ (line : Line). line.event) a ≡ map (λ (line : Line). line.event) b → a ≡ b
same_right start [] [] first second events = refl
same_right start [] (y ∷ b) first second events = absurd (cc)
same_right start (x ∷ a) [] first second events = absurd (cc)
same_right start (x ∷ a) (y ∷ b) first second events = grind (arith, nat_tests, right_line, same_right start a b first.1 second.1 (cc))

replies_are : Headline → (start : Setup) (events : List WorldEvent) (replies : List (Result Reply Denied)) (log : List Line) → IsLogOf events replies log →
    AreRight start log → replies ≡ replies_to events (opened start)
replies_are headline start events replies log is right =
    let run = headline start events in
    let same : log ≡ run.log = same_right start log run.log right run.right (is.asked ∙ sym run.is_log.asked) in
    let turned : reverse replies ≡ reverse (replies_to events (opened start)) =
    sym is.answered ∙ ap (map (λ (line : Line). line.reply)) same ∙ run.is_log.answered in
    sym (reverse-reverse replies) ∙ ap reverse turned ∙ reverse-reverse (replies_to events (opened start))

pub one_right_reply : Headline → OneRightReply
one_right_reply headline = record { one = one_right; replies = replies_are headline }
