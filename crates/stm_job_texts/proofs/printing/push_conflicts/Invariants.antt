use Rattle.std.proofs.Common.{◌≡◌, ◌++◌, map, string_bytes}
use Rattle.stm_report_lines.specs.Text.{lines_text}
use Rattle.stm_job_texts.specs.Lines.{conflicts_line}
use Rattle.stm_job_texts.proofs.printing.push_conflicts.Given as goal

-- the text so far, and the lines that are left
abbrev pub invariant-loop-counted : goal.invariant-loop-counted
invariant-loop-counted l =
    string_bytes l.text ++ lines_text (map conflicts_line l.counted-iterator)
    ≡ string_bytes l.fn.text ++ lines_text (map conflicts_line l.tally.entries)
