use Rattle.std.proofs.Common.{◌≡◌, length}
use Rattle.stm_report_lines.specs.Bytes.{parts_of}
use Rattle.stm_report_lines.specs.Reading.{lines_from}
use Rattle.stm_report_lines.proofs.LoopLemmas.{so_far}
use Rattle.stm_report_lines.proofs.reading.each_line.Given as goal

-- the lines so far, and then what is read of the rest
abbrev pub invariant-loop-part : goal.invariant-loop-part
invariant-loop-part l = so_far l.lines.items l.rest ≡ lines_from 0 (parts_of l.bytes)

abbrev pub decreases-loop-part : goal.decreases-loop-part
decreases-loop-part l = length l.rest
