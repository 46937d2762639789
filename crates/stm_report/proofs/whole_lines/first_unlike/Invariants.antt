use Rattle.std.proofs.Common.{◌≡◌, ◌+◌, ◌≤◌, length}
use Rattle.stm_report.specs.WholeLines.{lines_in, first_unlike}
use Rattle.stm_report.proofs.whole_lines.first_unlike.Given as goal

-- the lines so far are alike, and there are no more of them than bytes
abbrev pub invariant-loop-left : goal.invariant-loop-left
invariant-loop-left l = record {
  alike : first_unlike l.number (lines_in l.left) (lines_in l.reported) ≡ first_unlike 1 (lines_in l.expected) (lines_in l.given);
  counted : l.number + length l.left ≤ length l.expected + 1;
}

abbrev pub decreases-loop-left : goal.decreases-loop-left
decreases-loop-left l = length l.left
