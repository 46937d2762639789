use Rattle.std.proofs.Common.{◌≡◌, ◌++◌, drop}
use Rattle.stm_formats.specs.FormatEscaped.{escaped}
use Rattle.stm_formats.proofs.format_pieces.push_escaped.Given as goal

-- what was written so far, and the bytes that are left
abbrev pub invariant-loop-byte : goal.invariant-loop-byte
invariant-loop-byte l = l.out.items ++ escaped (drop l.byte-index l.bytes) ≡ l.fn.out.items ++ escaped l.bytes
