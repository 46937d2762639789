-- The report of a world, and its text.
use Rattle.std.specs.Prelude.{◌≡◌, ℕ, suc, List, [], ◌∷◌, ◌++◌, length, Result}
use Rattle.stm_events.specs.declared.line.ReportLine.{ReportLine}
use Rattle.stm_events.specs.declared.line.ReportLine.TheVariants.{Event}
use Rattle.stm_events.specs.declared.line.Report.{Report}
use Rattle.stm_report_lines.specs.Text.{text_of}
use Rattle.stm_events.specs.declared.reply.Reply.{Reply}
use Rattle.stm_events.specs.declared.refusal.Denied.{Denied}
use Rattle.stm_world.specs.World.{World}
use Rattle.stm_check.specs.StoreLines.{end_lines}

-- a line for each event, numbered from n
abbrev pub event_lines : ℕ → List (Result Reply Denied) → List ReportLine
event_lines n [] = []
event_lines n (reply ∷ replies) = Event n reply ∷ event_lines (suc n) replies

-- The report of a world and the replies that it gave: a line for each event, and then those of the store that the world has, and of the
-- number of its entries.
abbrev pub report_of : World → List (Result Reply Denied) → Report
report_of w replies = record { lines = event_lines 1 replies ++ end_lines w.standing (length w.entries) }

-- the text is this report's
abbrev pub IsReport : World → List (Result Reply Denied) → List ℕ → Type 0
IsReport w replies text = text ≡ text_of (report_of w replies).lines
