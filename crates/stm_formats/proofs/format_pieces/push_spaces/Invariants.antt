use Rattle.std.proofs.Common.{◌≡◌, ◌++◌, replicate}
use Rattle.stm_formats.proofs.format_pieces.push_spaces.Given as goal

-- that many spaces were added
abbrev pub invariant-loop : goal.invariant-loop
invariant-loop l = l.out.items ≡ l.fn.out.items ++ replicate l.counter 32
