use Rattle.std.proofs.Common.{◌≡◌, take, map}
use Rattle.std.specs.Prelude.{string_bytes}
use Rattle.stm_explore.proofs.ShownLemmas.{shown_of}
use Rattle.stm_explore.proofs.shown.state_shown.Given as goal

abbrev pub invariant-loop-key : goal.invariant-loop-key
invariant-loop-key l = l.state.items ≡ map (shown_of l.keys.history) (map string_bytes (take l.key-index l.key-items))
