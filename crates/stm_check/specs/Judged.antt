-- What a check comes to.
use Rattle.std.specs.Prelude.{◌≡◌, ℕ, suc, List, [], ◌∷◌}
use Rattle.stm_events.specs.declared.event.WorldEvent.{WorldEvent}
use Rattle.stm_texts.specs.declared.scenario.Scenario.{Scenario}
use Rattle.stm_events.specs.declared.line.ReportLine.{ReportLine}
use Rattle.stm_events.specs.declared.line.Report.{Report}
use Rattle.stm_check.specs.declared.checking.Checked.{Checked}
use Rattle.stm_check.specs.declared.checking.Checked.TheVariants.{Yes, No}
use Rattle.stm_check.specs.Point.{Point, after_line}
use Rattle.stm_check.specs.Wrong.{IsRight, AreRight, IsOff, IsFirstWrong, opens_at}

-- yes where no line is wrong, else the first wrong line with its cause: from this point on, the first line of this number
abbrev pub IsJudgedFrom : ℕ → Point → List WorldEvent → List ReportLine → Checked → Type 0
IsJudgedFrom n p events lines Yes = AreRight n p events lines
IsJudgedFrom n p events lines (No line cause) = IsFirstWrong n p events lines line cause

abbrev pub IsJudged : Scenario → Report → Checked → Type 0
IsJudged s r checked = IsJudgedFrom 1 (opens_at s) s.events r.lines checked

-- ---- the two parts of a report

-- the lines of these events are right
abbrev pub AreRightEvents : ℕ → Point → List WorldEvent → List ReportLine → Type 0
AreRightEvents n p [] lines = Unit {0}
AreRightEvents n p (event ∷ events) [] = ⊥
AreRightEvents n p (event ∷ events) (l ∷ lines) = IsRight n p event l × AreRightEvents (suc n) (after_line p event l) events lines

-- the first wrong line is among those of these events
abbrev pub IsWrongEvent : ℕ → Point → List WorldEvent → List ReportLine → Checked → Type 0
IsWrongEvent n p events lines Yes = ⊥
IsWrongEvent n p events lines (No line cause) = IsFirstWrong n p events lines line cause

-- what the lines of the end come to, beside those that stand there, the first of which has this number
abbrev pub IsJudgedEnd : ℕ → List ReportLine → List ReportLine → Checked → Type 0
IsJudgedEnd n finals lines Yes = lines ≡ finals
IsJudgedEnd n finals lines (No line cause) = IsOff n finals lines line cause
