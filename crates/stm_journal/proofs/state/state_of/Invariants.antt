use Rattle.std.proofs.Common.{map, take, string_bytes}
use Rattle.stm_journal.specs.PresentKeys.{is_listed}
use Rattle.stm_journal.specs.StateOf.{IsStateOfSeen}
use Rattle.stm_journal.proofs.state.state_of.Given as goal

-- the keys so far are seen
abbrev pub invariant-loop-key : goal.invariant-loop-key
invariant-loop-key l = IsStateOfSeen l.keys.history (λ q. is_listed q (map string_bytes (take l.key-index l.key-items))) l.state
