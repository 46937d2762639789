use Rattle.std.proofs.Common.{◌≡◌, ◌++◌, drop}
use Rattle.stm_formats.specs.FormatSource.{line_after}
use Rattle.stm_formats.proofs.format_source.second_line.Given as goal

-- the line so far, and that of the bytes that are left
abbrev pub invariant-loop-byte : goal.invariant-loop-byte
invariant-loop-byte l = l.line.items ++ line_after l.stage (drop l.byte-index l.text) ≡ line_after 0 l.text
