use Rattle.std.proofs.Common.{◌≡◌, ◌<◌, ◌++◌, drop, string_bytes}
use Rattle.stm_meaning.specs.States.{IsAscending}
use Rattle.stm_job_texts.specs.Lines.{value_lines}
use Rattle.stm_report_lines.specs.Text.{lines_text}
use Rattle.stm_job_texts.proofs.printing.push_values.Given as goal

-- the text so far, and the lines of the keys that are left; once a key was looked at, the keys are known to ascend
abbrev pub invariant-loop-i : goal.invariant-loop-i
invariant-loop-i l = record {
  reported : string_bytes l.text ++ lines_text (value_lines (drop l.i l.state)) ≡ string_bytes l.fn.text ++ lines_text (value_lines l.state);
  rises : 0 < l.i → IsAscending l.state;
}
