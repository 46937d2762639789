use Rattle.std.proofs.Common.{◌≡◌, ◌≤◌, ◌-◌, length, drop}
use Rattle.stm_formats.specs.FormatShown.{from_character}
use Rattle.stm_formats.proofs.format_pieces.start_of_back.Given as goal

-- the bytes so far belong to a character that began before them
abbrev pub invariant-loop-start : goal.invariant-loop-start
invariant-loop-start l = record {
  within : l.start ≤ length l.bytes;
  back : from_character (drop l.start l.bytes) ≡ from_character (drop (length l.bytes - l.kept) l.bytes);
}

abbrev pub decreases-loop-start : goal.decreases-loop-start
decreases-loop-start l = length (drop l.start l.bytes)
