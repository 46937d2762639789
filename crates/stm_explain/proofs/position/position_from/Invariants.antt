use Rattle.std.proofs.Common.{◌≡◌, ◌≤◌, ◌+◌, drop}
use Rattle.stm_explain.specs.Positions.{place_from}
use Rattle.stm_explain.proofs.position.position_from.Given as goal

-- what is left leads from here to the position after all
abbrev pub invariant-loop-byte : goal.invariant-loop-byte
invariant-loop-byte l = record {
  leads : place_from (l.line, l.column) (drop l.byte-index l.bytes) ≡ place_from (l.fn.at.line, l.fn.at.column) l.bytes;
  counted : 1 ≤ l.column;
  bounded : l.line + l.column ≤ l.fn.at.line + l.fn.at.column + l.byte-index;
}
