use Rattle.std.proofs.Common.{◌≡◌, ◌++◌, drop, map, string_bytes}
use Rattle.stm_check.specs.StoreLines.{key_lines}
use Rattle.stm_check.proofs.finals.add_keys.Given as goal

-- the lines so far, and those of the keys that are left
abbrev pub invariant-loop-key : goal.invariant-loop-key
invariant-loop-key l =
    l.lines.items ++ key_lines l.keys.history (map string_bytes (drop l.key-index l.key-items))
    ≡ l.fn.lines.items ++ key_lines l.keys.history (map string_bytes l.key-items)
