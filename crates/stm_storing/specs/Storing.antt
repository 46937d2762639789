-- What a command does to the file of a world, also where a crash comes at any moment of it, and what it prints.
use Rattle.std.specs.Prelude.{◌≡◌, ◌⊎◌, ◌<◌, ◌≤◌, ◌-◌, ℕ, List, [], length, slice_get, Option, Some, Result, Ok}
use Rattle.std.specs.Io.KnownBytes.{Appends}
use Rattle.stm_texts.specs.declared.scenario.Scenario.{Scenario}
use Rattle.stm_texts.specs.Reading.{scenario_in}
use Rattle.stm_events.specs.declared.reply.Reply.{Reply}
use Rattle.stm_events.specs.declared.refusal.Denied.{Denied}
use Rattle.stm_events.specs.declared.event.WorldEvent.{WorldEvent}
use Rattle.stm_history.specs.History.{now}
use Rattle.stm_world.specs.World.{World, world_after, replies_to}
use Rattle.stm_report_lines.specs.LineData.{event_data_of}
use Rattle.stm_report_lines.specs.Text.{line_text}
use Rattle.stm_report.specs.declared.format.Format.{Format}
use Rattle.stm_report.specs.FormatScript.{IsTextSince, IsTextFrom}
use Rattle.stm_watch.specs.declared.watched.Watched.{Watched}
use Rattle.stm_txn.specs.Standing.{Standing, kept}
use Rattle.stm_program.specs.Syntax.{ProgramTree}
use Rattle.stm_storing.specs.declared.running.Manner.{Manner}
use Rattle.stm_storing.specs.Past.{text_since, IsTextAt}
use Rattle.stm_storing.specs.Running.{IsRunOf, EndInCommit}
use Rattle.stm_records.specs.RecordFiles.{OpensAlike}
use Rattle.stm_lasting.specs.Kept.{IsKept, OpensTo, IsReady, IsWorldBeforeOrAfter}

-- the file opens to this world, as it was found, and leads to it once a torn end is cut off
pub record IsOpened (found mended : List ℕ) (world : World) : Type 0 where
  pub opens : OpensTo found world
  pub kept : IsKept mended world

-- a scenario has run over a world that was ready for it: its revision then, the world after it, and the replies to its events
abbrev pub HasRun : List ℕ → Scenario → ℕ → World → List (Result Reply Denied) → Type 0
HasRun mended scenario since after_it replies =
    (before : World) × IsReady mended before scenario × (after_it ≡ world_after scenario.events before) × (replies ≡ replies_to scenario.events before)
    × (since ≡ now before.standing.history)

-- of a crash while a scenario runs over a file: the world from before it, or the one after it
abbrev pub LeavesAround : List ℕ → List ℕ → Scenario → List ℕ → Type 0
LeavesAround mended text scenario c =
    (before : World) × IsReady mended before scenario × IsWorldBeforeOrAfter mended text (world_after scenario.events before) c

-- What a crash leaves while a scenario is gone on with: a file that opens to what it was found to open to, or to the world after the scenario.
abbrev pub LeavesFoundOrAfter : List ℕ → List ℕ → Scenario → List ℕ → Type 0
LeavesFoundOrAfter found text scenario c =
    OpensAlike found c ⊎ ((mended : List ℕ) × (world : World) × IsOpened found mended world × LeavesAround mended text scenario c)

-- of a crash while a program runs over a file: what it opened to, or the world after the scenario of the run
abbrev pub LeavesAroundRun : List ℕ → List ℕ → Type 0
LeavesAroundRun mended c =
    OpensAlike mended c ⊎ ((text : List ℕ) × (scenario : Scenario) × (scenario_in text ≡ Ok scenario) × LeavesAround mended text scenario c)

-- the same of a file with an end that may be torn
abbrev pub LeavesFoundOrRun : List ℕ → List ℕ → Type 0
LeavesFoundOrRun found c = OpensAlike found c ⊎ ((mended : List ℕ) × (world : World) × IsOpened found mended world × LeavesAroundRun mended c)

-- A run of a program lasts, over the world that a file led to: its events have had these replies, the last of which says that it has committed, and the
-- file leads to the world after them.
pub record LeadsPast (program : ProgramTree) (manner : Manner) (mended file : List ℕ) (replies : List (Result Reply Denied)) : Type 0 where
  pub scenario : Scenario
  pub before : World
  pub ready : IsReady mended before scenario
  pub kept : IsKept file (world_after scenario.events before)
  pub replied : replies ≡ replies_to scenario.events before
  pub runner : ℕ
  pub run : IsRunOf program manner runner scenario.events
  pub ended : EndInCommit runner replies

-- the line of the last of the events that have these replies was printed
abbrev pub HasPrintedLast : List (Result Reply Denied) → Option (List ℕ) → Option (List ℕ) → Type 0
HasPrintedLast replies before_it after_it =
    (last : Result Reply Denied) × (slice_get replies (length replies - 1) ≡ Some last)
    × Appends before_it after_it (line_text (event_data_of (length replies) last))

-- a program was run alone over the world that a file leads to, and lasts; the line of its last event was printed
pub record HasRunAlone (program : ProgramTree) (manner : Manner) (mended file : List ℕ) (before_it after_it : Option (List ℕ)) : Type 0 where
  pub replies : List (Result Reply Denied)
  pub past : LeadsPast program manner mended file replies
  pub printed : HasPrintedLast replies before_it after_it

-- the report of a world, and of these events since a revision with their replies, was printed
abbrev pub HasPrinted : Format → ℕ → World → List WorldEvent → List (Result Reply Denied) → Option (List ℕ) → Option (List ℕ) → Type 0
HasPrinted format since world events replies before_it after_it =
    (report : List ℕ) × IsTextSince since format [] world events replies report × Appends before_it after_it report

-- A scenario has run over what was found: the file leads to the world after it, and its report was printed.
pub record HasGoneOn (format : Format) (found file : List ℕ) (scenario : Scenario) (before_it after_it : Option (List ℕ)) : Type 0 where
  pub mended : List ℕ
  pub world : World
  pub opened : IsOpened found mended world
  pub before : World
  pub ready : IsReady mended before scenario
  pub kept : IsKept file (world_after scenario.events before)
  pub report : List ℕ
  pub reported : IsTextFrom format [] before scenario.events report
  pub printed : Appends before_it after_it report

-- a run of a program has committed over what was found, and lasts
pub record HasCommitted (program : ProgramTree) (manner : Manner) (found file : List ℕ) (before_it after_it : Option (List ℕ)) : Type 0 where
  pub mended : List ℕ
  pub world : World
  pub opened : IsOpened found mended world
  pub run : HasRunAlone program manner mended file before_it after_it

-- what the world of a file has was printed: the report of no events
pub record HasShown (format : Format) (found : List ℕ) (before_it after_it : Option (List ℕ)) : Type 0 where
  pub world : World
  pub opens : OpensTo found world
  pub report : List ℕ
  pub reported : IsTextFrom format [] world [] report
  pub printed : Appends before_it after_it report

-- the file opens to some world
abbrev pub OpensToAny : List ℕ → Type 0
OpensToAny file = (world : World) × OpensTo file world

-- the store of the world that a file opens to has P
abbrev pub OpensToStore : List ℕ → (Standing → Type 0) → Type 0
OpensToStore file P = (world : World) × OpensTo file world × P (kept world.standing)

-- a revision of a store is yet to come, or was compacted; else it can be read
abbrev pub IsToCome : ℕ → Standing → Type 0
IsToCome revision s = now s.history < revision

abbrev pub IsCompacted : ℕ → Standing → Type 0
IsCompacted revision s = revision < s.floor

abbrev pub CanBeRead : ℕ → Standing → Type 0
CanBeRead revision s = (s.floor ≤ revision) × (revision ≤ now s.history)

-- the events of the world of a file from a revision on were printed, those that are asked for
pub record HasShownEvents (found : List ℕ) (wanted : Option Watched) (from : ℕ) (before_it after_it : Option (List ℕ)) : Type 0 where
  pub world : World
  pub opens : OpensTo found world
  pub above_floor : (kept world.standing).floor ≤ from
  pub printed : Appends before_it after_it (text_since wanted (kept world.standing).history from)

-- the keys that the store of a file had at a revision were printed
pub record HasShownPast (found : List ℕ) (revision : ℕ) (before_it after_it : Option (List ℕ)) : Type 0 where
  pub world : World
  pub opens : OpensTo found world
  pub readable : CanBeRead revision (kept world.standing)
  pub text : List ℕ
  pub shows : IsTextAt (kept world.standing).history revision text
  pub printed : Appends before_it after_it text
