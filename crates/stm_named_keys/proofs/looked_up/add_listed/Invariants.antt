use Rattle.std.proofs.Common.{◌≡◌, ◌++◌, map, take}
use Rattle.std.specs.Prelude.{string_bytes}
use Rattle.stm_named_keys.specs.Named.{whole}
use Rattle.stm_named_keys.proofs.looked_up.add_listed.Given as goal

-- the keys so far are added
abbrev pub invariant-loop-key : goal.invariant-loop-key
invariant-loop-key l = l.names ≡ l.fn.names ++ map whole (map string_bytes (take l.key-index l.keys))
