use Rattle.std.proofs.Common.{◌≡◌, take}
use Rattle.stm_explore.proofs.orders.copy_of_state.Given as goal

abbrev pub invariant-loop-kv : goal.invariant-loop-kv
invariant-loop-kv l = l.copy.items ≡ take l.kv-index l.state
