use Rattle.std.proofs.Common.{◌≡◌, ◌++◌, drop, string_bytes}
use Rattle.stm_report_lines.specs.Text.{lines_text}
use Rattle.stm_job_texts.specs.Lines.{lines_of_ends}
use Rattle.stm_job_texts.proofs.printing.push_ends.Given as goal

-- the text so far, and the lines of the jobs that are left
abbrev pub invariant-loop-job : goal.invariant-loop-job
invariant-loop-job l =
    string_bytes l.text ++ lines_text (lines_of_ends l.attempts l.job (drop l.job l.ends)) ≡ string_bytes l.fn.text ++ lines_text (lines_of_ends l.attempts 0 l.ends)
