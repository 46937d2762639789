use Rattle.std.proofs.Common.{◌≡◌, ◌≤◌, ◌+◌, drop, take}
use Rattle.stm_tokens.specs.Positions.{place_from}
use Rattle.stm_tokens.proofs.position.position_of.Given as goal

-- what is left leads from here to the position after all
abbrev pub invariant-loop-byte : goal.invariant-loop-byte
invariant-loop-byte l = record {
  leads : place_from (l.line, l.column) (drop l.byte-index (take l.fn.offset l.source)) ≡ place_from (1, 1) (take l.fn.offset l.source);
  counted : 1 ≤ l.column;
  bounded : l.line + l.column ≤ 2 + l.byte-index;
}
