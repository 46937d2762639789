use Rattle.std.proofs.Common.{◌≡◌, ◌+◌, drop}
use Rattle.stm_report.specs.WholeLines.{line_end}
use Rattle.stm_report.proofs.whole_lines.line_end.Given as goal

-- the bytes so far are no line feeds
abbrev pub invariant-loop-index : goal.invariant-loop-index
invariant-loop-index l = l.index + line_end (drop l.index l.bytes) ≡ line_end l.bytes
