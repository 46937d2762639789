use Rattle.std.proofs.Common.{◌≡◌, ◌≤◌, ◌++◌, length, take, drop}
use Rattle.stm_formats.specs.FormatShown.{front}
use Rattle.stm_formats.proofs.format_pieces.end_of_front.Given as goal

-- the bytes so far belong to the front, and so do those of the same character after them
abbrev pub invariant-loop-end : goal.invariant-loop-end
invariant-loop-end l = record {
  within : l.end ≤ length l.bytes;
  front : front l.kept l.bytes ≡ take l.end l.bytes ++ front 0 (drop l.end l.bytes);
}

abbrev pub decreases-loop-end : goal.decreases-loop-end
decreases-loop-end l = length (drop l.end l.bytes)
