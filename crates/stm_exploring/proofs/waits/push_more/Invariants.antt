use Rattle.std.proofs.Common.{◌≡◌, ◌++◌, map, take, string_bytes}
use Rattle.std.specs.List.{concat}
use Rattle.stm_exploring.specs.Waits.{next_wait_text}
use Rattle.stm_exploring.proofs.waits.push_more.Given as goal

-- the waits so far are written
abbrev pub invariant-loop-wait : goal.invariant-loop-wait
invariant-loop-wait l = string_bytes l.text ≡ string_bytes l.fn.text ++ concat (map next_wait_text (take l.wait-index l.waits))
