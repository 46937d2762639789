-- The laws of checks, each carried by a function of `src/laws.rt`.
use Rattle.std.specs.Prelude.{◌≡◌, ◌+◌, List, length, drop}
use Rattle.stm_entries.specs.declared.entry.Entry.{Entry}
use Rattle.stm_entries.specs.Replayed.{without_moment, opening}
use Rattle.stm_entries.specs.Replay.{replay}
use Rattle.stm_entries.specs.Legal.{AreLegal}
use Rattle.stm_events.specs.declared.event.WorldEvent.{WorldEvent}
use Rattle.stm_texts.specs.declared.scenario.Scenario.{Scenario}
use Rattle.stm_texts.specs.Opens.{setup_of}
use Rattle.stm_events.specs.declared.line.ReportLine.{ReportLine}
use Rattle.stm_events.specs.declared.line.Report.{Report}
use Rattle.stm_check.specs.declared.checking.Checked.{Checked}
use Rattle.stm_check.specs.Point.{Point}
use Rattle.stm_check.specs.StoreLines.{final_lines}
use Rattle.stm_check.specs.Judged.{IsJudged, AreRightEvents}
use Rattle.stm_check.specs.Wrong.{opens_at, point_after, entries_along, HasNoWrongLine}

-- A check has one answer for a report.
abbrev pub JudgedOnce : Type 0
JudgedOnce = (s : Scenario) (r : Report) (one other : Checked) → IsJudged s r one → IsJudged s r other → one ≡ other

-- And it has one for each report.
abbrev pub JudgedAlways : Type 0
JudgedAlways = (s : Scenario) (r : Report) → (c : Checked) × IsJudged s r c

-- The store after lines is the replay of all the entries that they report, and these are counted.
pub record IsReplayOf (p : Point) (entries : List Entry) (next : Point) : Type 0 where
  pub store : without_moment next.standing ≡ replay entries (without_moment p.standing)
  pub count : next.entries ≡ p.entries + length entries

abbrev pub StoreIsTheReplay : Type 0
StoreIsTheReplay =
    (p : Point) (events : List WorldEvent) (lines : List ReportLine) → IsReplayOf p (entries_along p events lines) (point_after p events lines)

-- What a report of a scenario shows: entries, each legal at its point, of which a committed line is one by its program run
-- alone, over an empty store; the store that they lead to is the one that its last lines show, and they are counted there.
pub record ShowsTheReplay (s : Scenario) (r : Report) : Type 0 where
  pub last : Point
  pub entries : List Entry
  pub are_reported : entries ≡ entries_along (opens_at s) s.events r.lines
  pub are_legal : AreLegal entries (opening (setup_of s.opening).revision)
  pub store : without_moment last.standing ≡ replay entries (opening (setup_of s.opening).revision)
  pub count : last.entries ≡ length entries
  pub events_are_right : AreRightEvents 1 (opens_at s) s.events r.lines
  pub ends : drop (length s.events) r.lines ≡ final_lines last

abbrev pub YesIsTheReplay : Type 0
YesIsTheReplay = (s : Scenario) (r : Report) → HasNoWrongLine s r → ShowsTheReplay s r
