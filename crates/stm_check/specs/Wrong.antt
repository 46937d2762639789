-- Which line of a report is the first wrong one, and why. Lines are counted from 1; events' lines stand first.
use Rattle.std.specs.Prelude.{◌≡◌, ◌⊎◌, ℕ, suc, true, false, List, [], ◌∷◌, ◌++◌}
use Rattle.stm_entries.specs.declared.entry.Entry.{Entry}
use Rattle.stm_events.specs.declared.event.WorldEvent.{WorldEvent}
use Rattle.stm_texts.specs.declared.scenario.Scenario.{Scenario}
use Rattle.stm_texts.specs.Opens.{setup_of}
use Rattle.stm_events.specs.declared.line.ReportLine.{ReportLine}
use Rattle.stm_events.specs.declared.line.ReportLine.TheVariants as line
use Rattle.stm_events.specs.declared.line.Report.{Report}
use Rattle.stm_check.specs.declared.cause.WrongCause.{WrongCause}
use Rattle.stm_check.specs.declared.cause.WrongCause.TheVariants.{Count, Event, Replay, Final}
use Rattle.stm_check.specs.Point.{Point, beginning, entries_of_line, after_line}
use Rattle.stm_check.specs.StoreLines.{final_lines}
use Rattle.stm_check.specs.Fits.{fits}
use Rattle.stm_check.specs.Replays.{Replays}

-- ---- one line in the place of an event

-- the reply of the line is what the replay gives
abbrev pub IsReplayed : Point → WorldEvent → ReportLine → Type 0
IsReplayed p event (line.Event n replied) = Replays p.standing p.runners event replied
IsReplayed p event other = ⊥

abbrev pub IsRight : ℕ → Point → WorldEvent → ReportLine → Type 0
IsRight n p event l = (fits n p.runners event l ≡ true) × IsReplayed p event l

-- Event comes before Replay
abbrev pub IsWrong : ℕ → Point → WorldEvent → ReportLine → WrongCause → Type 0
IsWrong n p event l Event = fits n p.runners event l ≡ false
IsWrong n p event l Replay = (fits n p.runners event l ≡ true) × (¬ IsReplayed p event l)
IsWrong n p event l other = ⊥

-- ---- no line is wrong

-- the lines of events, the first of them of this number, and then those of the end
abbrev pub AreRight : ℕ → Point → List WorldEvent → List ReportLine → Type 0
AreRight n p [] lines = lines ≡ final_lines p
AreRight n p (event ∷ events) [] = ⊥
AreRight n p (event ∷ events) (l ∷ lines) = IsRight n p event l × AreRight (suc n) (after_line p event l) events lines

-- ---- the first wrong line

-- after the events' lines: a line that is none of the end is Final, one that is missing or too much is Count
abbrev pub IsOff : ℕ → List ReportLine → List ReportLine → ℕ → WrongCause → Type 0
IsOff n [] [] wrong cause = ⊥
IsOff n [] (l ∷ lines) wrong cause = (wrong ≡ n) × (cause ≡ Count)
IsOff n (final ∷ finals) [] wrong cause = (wrong ≡ n) × (cause ≡ Count)
IsOff n (final ∷ finals) (l ∷ lines) wrong cause =
    ((wrong ≡ n) × (cause ≡ Final) × (¬ (l ≡ final))) ⊎ ((l ≡ final) × IsOff (suc n) finals lines wrong cause)

-- a line that is wrong after right ones, or missing in the place of an event
abbrev pub IsFirstWrong : ℕ → Point → List WorldEvent → List ReportLine → ℕ → WrongCause → Type 0
IsFirstWrong n p [] lines wrong cause = IsOff n (final_lines p) lines wrong cause
IsFirstWrong n p (event ∷ events) [] wrong cause = (wrong ≡ n) × (cause ≡ Count)
IsFirstWrong n p (event ∷ events) (l ∷ lines) wrong cause =
    ((wrong ≡ n) × IsWrong n p event l cause)
    ⊎ (IsRight n p event l × IsFirstWrong (suc n) (after_line p event l) events lines wrong cause)

-- ---- a report beside a scenario, which says what the store opens with

abbrev pub opens_at : Scenario → Point
opens_at s = beginning (setup_of s.opening)

-- no line of the report is wrong
abbrev pub HasNoWrongLine : Scenario → Report → Type 0
HasNoWrongLine s r = AreRight 1 (opens_at s) s.events r.lines

-- ---- the entries of the lines so far

-- the point after the lines of these events
abbrev pub point_after : Point → List WorldEvent → List ReportLine → Point
point_after p [] lines = p
point_after p (event ∷ events) [] = p
point_after p (event ∷ events) (l ∷ lines) = point_after (after_line p event l) events lines

-- the entries that the lines of these events report
abbrev pub entries_along : Point → List WorldEvent → List ReportLine → List Entry
entries_along p [] lines = []
entries_along p (event ∷ events) [] = []
entries_along p (event ∷ events) (l ∷ lines) =
    entries_of_line p event l ++ entries_along (after_line p event l) events lines
