use Rattle.std.proofs.Common.{◌≡◌, ◌++◌, drop}
use Rattle.stm_formats.specs.FormatShown.{shown_after}
use Rattle.stm_formats.proofs.format_pieces.push_shown.Given as goal

-- what was added, and what the bytes that are left are shown as, is what all are shown as
abbrev pub invariant-loop-index : goal.invariant-loop-index
invariant-loop-index l = l.out.items ++ shown_after l.exact l.left (drop l.index l.bytes) ≡ l.fn.out.items ++ shown_after l.exact 0 l.bytes
