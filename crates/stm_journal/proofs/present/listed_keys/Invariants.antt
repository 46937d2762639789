use Rattle.std.proofs.Common.{◌≡◌, map, take, string_bytes}
use Rattle.std.specs.Map.{keys_of}
use Rattle.stm_journal.proofs.present.listed_keys.Given as goal

-- the keys so far are copied
abbrev pub invariant-loop-index : goal.invariant-loop-index
invariant-loop-index l = map string_bytes l.listed.items ≡ keys_of (take l.index l.keys.present)
