use Rattle.std.proofs.Common.{◌≡◌, ℕ, List}
use Rattle.std.specs.Ordering.{nat_cmp}
use Rattle.std.specs.Cmp.Lexicographic.{slice_cmp}
use Rattle.stm_history.specs.History.{key_now}
use Rattle.stm_exploring.proofs.SmallWorlds.{SoFar}
use Rattle.stm_exploring.proofs.narrowing.have_same_keys.Given as goal

abbrev pub invariant-loop-key : goal.invariant-loop-key
invariant-loop-key l = SoFar (slice_cmp nat_cmp) (λ (key : List ℕ). key_now l.one.history key ≡ key_now l.other.history key) l.keys.keys l.key-iterator
