use Rattle.std.proofs.Common.{◌≡◌, ◌+◌, ◌++◌, drop, string_bytes}
use Rattle.stm_report.specs.Forms.{formed_text}
use Rattle.stm_report.specs.Report.{event_lines}
use Rattle.stm_report.proofs.report_text.push_events.Given as goal

-- the text so far, and the lines of the events that are left
abbrev pub invariant-loop-before : goal.invariant-loop-before
invariant-loop-before l =
    string_bytes l.text ++ formed_text l.form (event_lines (l.before + 1) (drop l.before l.replies)) ≡ string_bytes l.fn.text ++ formed_text l.form (event_lines 1 l.replies)
