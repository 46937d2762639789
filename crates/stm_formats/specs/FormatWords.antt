-- What a row says of an event and its reply. A revision comes after `@`, 0 where the key is absent.
use Rattle.std.specs.Prelude.{ℕ, suc, List, [], ◌∷◌, ◌++◌, length, nat_eq, nat_lt, nat_le, Bool, if◌then◌else◌, Option, None, Some, Result, Ok, Err, codes, decimal}
use Rattle.stm_history.specs.History.{History}
use Rattle.stm_program.specs.Syntax.{ProgramTree}
use Rattle.stm_meaning.specs.Faults.{fault_name}
use Rattle.stm_outcome.specs.declared.advance.Expired.{Expired}
use Rattle.stm_events.specs.declared.event.WorldEvent.{WorldEvent}
use Rattle.stm_events.specs.declared.event.WorldEvent.TheVariants as event
use Rattle.stm_events.specs.declared.reply.Reply.{Reply}
use Rattle.stm_events.specs.declared.reply.Reply.TheVariants.{Started, Prefetched, Fetched, Committed, Conflict, GaveUp, Aborted, Faulted, Ended}
use Rattle.stm_events.specs.declared.reply.Reply.TheVariants.{Txn, Revoked, Advanced, Watching, Batch, Lost}
use Rattle.stm_events.specs.declared.reply.KeyRead.{KeyRead}
use Rattle.stm_events.specs.declared.refusal.Denied.{Denied}
use Rattle.stm_events.specs.declared.refusal.EventRefusal.{EventRefusal}
use Rattle.stm_events.specs.Names.{refusal_name}
use Rattle.stm_keys.specs.declared.event.Event.{Event}
use Rattle.stm_texts.specs.Grammar.{level_text}
use Rattle.stm_reasons.specs.Counters.{counter_after}
use Rattle.stm_formats.specs.declared.format_label.RunnerLabel.{RunnerLabel}
use Rattle.stm_formats.specs.declared.format_changes.TheConstants.{MOST_CHANGES}
use Rattle.stm_formats.specs.declared.format_keys.Cuts.{Cuts}
use Rattle.stm_formats.specs.FormatShown.{shown}
use Rattle.stm_formats.specs.FormatKeys.{key_words}
use Rattle.stm_formats.specs.FormatPieces.{joined}
use Rattle.stm_formats.specs.FormatLabels.{program_of}
use Rattle.stm_formats.specs.FormatSource.{source_words, program_words, compare_words}
use Rattle.stm_formats.specs.FormatOutput.{emitted_words}
use Rattle.stm_formats.specs.FormatChanges.{known_words, between, changes_after, changed_since}

-- a word and the number or the text that it is about
abbrev pub named_words : List ℕ → ℕ → List ℕ
named_words word n = joined (word ∷ codes " " ∷ decimal n ∷ [])

abbrev pub reported_words : ℕ → List ℕ → List ℕ → List ℕ
reported_words most word text = joined (word ∷ codes " " ∷ shown most text ∷ [])

-- what was done to the store, and a revision: the one after a change, and that of a compaction
abbrev pub changed_words : List ℕ → ℕ → List ℕ
changed_words word revision = joined (word ∷ codes " @" ∷ decimal revision ∷ [])

-- what a runner was started with: its program with the arguments, as the source has them, or the first line of its program
abbrev pub called_words : ℕ → Option (List ℕ) → ProgramTree → List ℕ
called_words most None program = program_words most program
called_words most (Some call) program = source_words most call

-- the level of a runner that was started, and that
abbrev pub start_words : ℕ → List RunnerLabel → ℕ → WorldEvent → List ℕ
start_words most labels runner (event.Start program level limit) =
    joined (codes "start " ∷ level_text level ∷ called_words most (program_of labels runner) program ∷ [])
start_words most labels runner other = codes "start"

-- ---- what was read

-- what stands between a key that was seen at a modification revision and its value
abbrev pub link : ℕ → List ℕ
link mod_rev = if nat_eq mod_rev 0 then codes ": " else codes " = "

-- a key that was seen as of a revision, at this modification revision
abbrev pub seen_words : Cuts → History → List ℕ → ℕ → ℕ → List ℕ
seen_words cuts h key mod_rev revision = joined (key_words cuts key ∷ link mod_rev ∷ known_words cuts.value h key mod_rev revision ∷ [])

-- the revision that a read shows, where the store was at another one
abbrev pub as_of : ℕ → ℕ → List ℕ
as_of of_rev revision = if nat_eq of_rev revision then [] else joined (codes ", as of " ∷ decimal of_rev ∷ [])

abbrev pub fetched_words : Cuts → History → List ℕ → ℕ → ℕ → ℕ → List ℕ
fetched_words cuts h key mod_rev of_rev revision =
    joined (codes "read " ∷ seen_words cuts h key mod_rev of_rev ∷ as_of of_rev revision ∷ [])

-- a key of a list that was read after that many others: of more than are shown only that there are more
abbrev pub counted_read : Cuts → History → ℕ → ℕ → KeyRead → List ℕ
counted_read cuts h revision count read =
    if nat_lt count MOST_CHANGES then joined (between count ∷ seen_words cuts h read.key read.mod_rev revision ∷ [])
    else (if nat_eq count MOST_CHANGES then codes ", .." else [])

abbrev pub reads_after : Cuts → History → ℕ → ℕ → List KeyRead → List ℕ
reads_after cuts h revision count [] = []
reads_after cuts h revision count (read ∷ reads) = counted_read cuts h revision count read ++ reads_after cuts h revision (suc count) reads

abbrev pub listed_words : Cuts → History → ℕ → List KeyRead → List ℕ
listed_words cuts h revision reads = joined (codes "read the list" ∷ reads_after cuts h revision 0 reads ∷ [])

-- ---- what came of a commit

-- which attempt it was, from the second on
abbrev pub attempt_words : ℕ → List ℕ
attempt_words attempts = if nat_eq attempts 1 then [] else joined (codes ", attempt " ∷ decimal attempts ∷ [])

-- Where the store's revision after a commit is not above that before it, the commit changed no key.
abbrev pub commit_word : ℕ → ℕ → List ℕ
commit_word before revision = if nat_le revision before then codes "COMMIT, no change, at @" else codes "COMMIT @"

abbrev pub commit_words : ℕ → ℕ → ℕ → List ℕ
commit_words before revision attempts = joined (commit_word before revision ∷ decimal revision ∷ attempt_words attempts ∷ [])

-- what a failed compare was about: the key, what was seen of it, and what it is now
abbrev pub compared_words : Cuts → History → List ℕ → List ℕ → ℕ → ℕ → List ℕ
compared_words cuts h word key seen now =
    joined (word ∷ codes " " ∷ key_words cuts key ∷ codes ": was " ∷ known_words cuts.value h key seen seen ∷ codes ", is " ∷ known_words cuts.value h key now now ∷ [])

-- ---- other events

-- what a transaction compared
abbrev pub compared_by : ℕ → WorldEvent → List ℕ
compared_by most (event.Txn txn) = compare_words most txn.compares
compared_by most other = []

abbrev pub failed_word : Bool → List ℕ
failed_word succeeded = if succeeded then [] else codes "failed "

abbrev pub at_words : ℕ → List ℕ
at_words revision = joined (codes "@" ∷ decimal revision ∷ [])

abbrev pub txn_words : ℕ → WorldEvent → Bool → ℕ → List ℕ
txn_words most event succeeded revision = joined (codes "txn " ∷ failed_word succeeded ∷ compared_by most event ∷ at_words revision ∷ [])

abbrev pub revoked_words : ℕ → ℕ → List ℕ
revoked_words id revision = joined (codes "revoke " ∷ decimal id ∷ codes " @" ∷ decimal revision ∷ [])

-- a grant of a lease for that many seconds, as a source has it
abbrev pub grant_words : ℕ → ℕ → List ℕ
grant_words id ttl = joined (codes "grant " ∷ decimal id ∷ codes " ttl " ∷ decimal ttl ∷ [])

-- what was asked for
abbrev pub asked_words : WorldEvent → List ℕ
asked_words (event.Start program level limit) = codes "start"
asked_words (event.Step runner) = codes "step"
asked_words (event.Txn txn) = codes "txn"
asked_words (event.Grant id ttl) = grant_words id ttl
asked_words (event.Keep id) = named_words (codes "keep") id
asked_words (event.Revoke id) = named_words (codes "revoke") id
asked_words (event.Advance now) = named_words (codes "advance to") now
asked_words (event.Compact revision) = changed_words (codes "compact") revision
asked_words (event.WatchKey key from) = codes "watch"
asked_words (event.WatchRange first end from) = codes "watch"
asked_words (event.Poll watcher most) = named_words (codes "poll") watcher
asked_words (event.Cancel watcher) = named_words (codes "cancel") watcher

-- what stands before a lease that ended after that many
abbrev pub lease_after : ℕ → List ℕ
lease_after count = if nat_eq count 0 then codes ": lease " else codes ", lease "

-- a lease that ended after that many, and the revision after it: of more than are shown only that there are more
abbrev pub counted_end : ℕ → Expired → List ℕ
counted_end count lease =
    if nat_lt count MOST_CHANGES then joined (lease_after count ∷ decimal lease.id ∷ codes " ended @" ∷ decimal lease.revision ∷ [])
    else (if nat_eq count MOST_CHANGES then codes ", .." else [])

-- the leases that ended after that many
abbrev pub ends_after : ℕ → List Expired → List ℕ
ends_after count [] = []
ends_after count (lease ∷ expired) = counted_end count lease ++ ends_after (suc count) expired

abbrev pub advanced_words : ℕ → List Expired → List ℕ
advanced_words now expired = joined (codes "advance to " ∷ decimal now ∷ ends_after 0 expired ∷ [])

-- from which revision on is watched, where that is said
abbrev pub from_words : ℕ → List ℕ
from_words from = if nat_eq from 0 then [] else joined (codes " from @" ∷ decimal from ∷ [])

-- what is watched
abbrev pub watched_words : Cuts → WorldEvent → List ℕ
watched_words cuts (event.WatchKey key from) = joined (codes ": \"" ∷ key_words cuts key ∷ codes "\"" ∷ from_words from ∷ [])
watched_words cuts (event.WatchRange first end from) =
    joined (codes ": \"" ∷ key_words cuts first ∷ codes "\"..\"" ∷ key_words cuts end ∷ codes "\"" ∷ from_words from ∷ [])
watched_words cuts other = []

abbrev pub watch_words : Cuts → ℕ → WorldEvent → List ℕ
watch_words cuts watcher event = joined (codes "watch " ∷ decimal watcher ∷ watched_words cuts event ∷ [])

abbrev pub events_word : ℕ → List ℕ
events_word count = if nat_eq count 1 then codes " event to @" else codes " events to @"

-- what a poll gave
abbrev pub batch_words : Cuts → ℕ → ℕ → List Event → List ℕ
batch_words cuts watcher upto events =
    joined (codes "poll " ∷ decimal watcher ∷ codes ": " ∷ decimal (length events) ∷ events_word (length events) ∷ decimal upto ∷ changes_after cuts 0 events ∷ [])

-- a watcher that was lost, and the first revision whose events are kept
abbrev pub lost_words : ℕ → ℕ → List ℕ
lost_words watcher floor = joined (codes "LOST watcher " ∷ decimal watcher ∷ codes ": kept from @" ∷ decimal floor ∷ [])

-- The words of an event that was taken, before which the store was at a revision: of a grant, a renewal, a cancellation and a compaction what was asked for.
abbrev pub reply_words : Cuts → List RunnerLabel → History → ℕ → WorldEvent → Reply → List ℕ
reply_words cuts labels h before event (Started runner) = start_words cuts.value labels runner event
reply_words cuts labels h before event (Prefetched runner revision reads) = listed_words cuts h revision reads
reply_words cuts labels h before event (Fetched runner key mod_rev of_rev revision) = fetched_words cuts h key mod_rev of_rev revision
reply_words cuts labels h before event (Committed runner revision attempts output trace answers) = commit_words before revision attempts
reply_words cuts labels h before event (Conflict runner key seen now) = compared_words cuts h (codes "CONFLICT") key seen now
reply_words cuts labels h before event (GaveUp runner attempts key seen now) = compared_words cuts h (codes "GAVE UP") key seen now
reply_words cuts labels h before event (Aborted runner text) = reported_words cuts.value (codes "ABORT") text
reply_words cuts labels h before event (Faulted runner fault) = reported_words cuts.value (codes "FAULT") (fault_name fault)
reply_words cuts labels h before event (Ended runner cause) = reported_words cuts.value (codes "ENDED") (refusal_name cause)
reply_words cuts labels h before event (Txn succeeded revision answers) = txn_words cuts.value event succeeded revision
reply_words cuts labels h before event (Revoked id revision) = revoked_words id revision
reply_words cuts labels h before event (Advanced now expired) = advanced_words now expired
reply_words cuts labels h before event (Watching watcher) = watch_words cuts watcher event
reply_words cuts labels h before event (Batch watcher upto events) = batch_words cuts watcher upto events
reply_words cuts labels h before event (Lost watcher floor) = lost_words watcher floor
reply_words cuts labels h before event other = asked_words event

abbrev pub refusal_words : EventRefusal → List ℕ
refusal_words cause = joined (codes ": " ∷ refusal_name cause ∷ [])

abbrev pub refused_words : WorldEvent → EventRefusal → List ℕ
refused_words event cause = joined (codes "REFUSED " ∷ asked_words event ∷ refusal_words cause ∷ [])

abbrev pub told_words : Cuts → List RunnerLabel → History → ℕ → WorldEvent → Result Reply Denied → List ℕ
told_words cuts labels h before event (Ok reply) = reply_words cuts labels h before event reply
told_words cuts labels h before event (Err denied) = refused_words event denied.cause

-- what a row says of an event before which the store was at a revision: of its reply, what it changed, and what was emitted
abbrev pub words_of : Cuts → List RunnerLabel → History → ℕ → WorldEvent → Result Reply Denied → List ℕ
words_of cuts labels h before event reply =
    joined (told_words cuts labels h before event reply ∷ changed_since cuts h before (counter_after before reply) ∷ emitted_words cuts.value reply ∷ [])
