-- What a check knows at a point of a report: the store that the lines before it lead to, the moment, how many entries there were, and
-- the runners.
--
-- The store is the replay of the entries that the lines reported. A moment is no part of a replay, nor is the floor, which compactions raise:
-- they are what the event's call leaves. What a compaction drops in a store stays here, where answers that were given before are looked up.
-- Watchers change no store, and a check has none.
use Rattle.std.specs.Prelude.{ℕ, ◌+◌, List, [], ◌∷◌, length, Option, Some, None, Result, Ok}
use Rattle.stm_history.specs.History.{History}
use Rattle.stm_steps.specs.declared.value.Value.{Value}
use Rattle.stm_steps.specs.declared.trace_item.TraceItem.{TraceItem}
use Rattle.stm_txn.specs.Standing.{Standing, Setup, opening}
use Rattle.stm_entries.specs.declared.entry.Entry.{Entry}
use Rattle.stm_entries.specs.declared.entry.Entry.TheVariants.{Program}
use Rattle.stm_entries.specs.Replayed.{Replayed, without_moment}
use Rattle.stm_entries.specs.Replay.{replay}
use Rattle.stm_events.specs.declared.event.WorldEvent.{WorldEvent}
use Rattle.stm_events.specs.Called.{Call, Watch, Poll, Cancel, Asked, Starts, Steps, Calls, asked, called, entered_by}
use Rattle.stm_events.specs.Replies.{reads_in}
use Rattle.stm_events.specs.declared.line.ReportLine.{ReportLine}
use Rattle.stm_events.specs.declared.line.ReportLine.TheVariants as line
use Rattle.stm_events.specs.declared.refusal.Denied.{Denied}
use Rattle.stm_events.specs.declared.reply.CommittedRead.{CommittedRead}
use Rattle.stm_events.specs.declared.reply.Reply.{Reply}
use Rattle.stm_events.specs.declared.reply.Reply.TheVariants.{Committed}
use Rattle.stm_check.specs.declared.runner.Runner.{Runner}
use Rattle.stm_check.specs.Runners.{running, runners_after}

-- the store with its moment, the number of entries so far, and the runners, the first one first
pub record Point : Type 0 where
  pub standing : Standing
  pub entries : ℕ
  pub runners : List Runner

-- before the first line, of a store that opens so
abbrev pub beginning : Setup → Point
beginning start = record { standing = opening start; entries = 0; runners = [] }

-- ---- what an event and the reply to it add

-- of the replies to a step only a commit is an entry, of a runner that runs
abbrev pub commit_entry : History → ℕ → List Value → List TraceItem → List CommittedRead → Option Runner → List Entry
commit_entry h revision output trace answers None = []
commit_entry h revision output trace answers (Some r) = Program r.program r.level (reads_in h answers) output trace revision ∷ []

abbrev pub step_entries : History → Option Runner → Result Reply Denied → List Entry
step_entries h runner (Ok (Committed id revision attempts output trace answers)) = commit_entry h revision output trace answers runner
step_entries h runner other = []

abbrev pub entries_asked : Standing → List Runner → Asked → Result Reply Denied → List Entry
entries_asked s runners (Starts program level limit) replied = []
entries_asked s runners (Steps id) replied = step_entries s.history (running id runners) replied
entries_asked s runners (Calls c) replied = entered_by c s (called s c).next replied

-- what the reply to an event reports as entries: no start is one
abbrev pub entries_reported : Standing → List Runner → WorldEvent → Result Reply Denied → List Entry
entries_reported s runners event replied = entries_asked s runners (asked event) replied

-- the store that a call leaves; of those about watchers a check makes none
abbrev pub left_by : Call → Standing → Standing
left_by (Watch keys from) s = s
left_by (Poll watcher most) s = s
left_by (Cancel watcher) s = s
left_by c s = (called s c).next

abbrev pub left_asked : Asked → Standing → Standing
left_asked (Calls c) s = left_by c s
left_asked other s = s

-- a store with the history and the leases of a replay
abbrev pub with_replayed : Replayed → Standing → Standing
with_replayed r s = record s { history = r.history; live = r.live }

-- the store that these entries lead to
abbrev pub led_by : List Entry → Standing → Standing
led_by entries s = with_replayed (replay entries (without_moment s)) s

-- the store after the reply to a call
abbrev pub standing_called : Standing → Call → Result Reply Denied → Standing
standing_called s c replied = with_replayed (replay (entered_by c s (called s c).next replied) (without_moment s)) (left_by c s)

-- the store after the reply to an event
abbrev pub standing_asked : Standing → List Runner → Asked → Result Reply Denied → Standing
standing_asked s runners a replied = with_replayed (replay (entries_asked s runners a replied) (without_moment s)) (left_asked a s)

abbrev pub standing_after : Standing → List Runner → WorldEvent → Result Reply Denied → Standing
standing_after s runners event replied = standing_asked s runners (asked event) replied

-- the point after the reply to an event
abbrev pub after : Point → WorldEvent → Result Reply Denied → Point
after p event replied = record {
  standing = standing_after p.standing p.runners event replied;
  entries = p.entries + length (entries_reported p.standing p.runners event replied);
  runners = runners_after (asked event) replied p.runners;
}

-- ---- lines in the place of an event: only one of an event has a reply

abbrev pub entries_of_line : Point → WorldEvent → ReportLine → List Entry
entries_of_line p event (line.Event n replied) = entries_reported p.standing p.runners event replied
entries_of_line p event other = []

abbrev pub after_line : Point → WorldEvent → ReportLine → Point
after_line p event (line.Event n replied) = after p event replied
after_line p event other = p
