use Rattle.std.proofs.Common.{◌≡◌, ℕ}
use Rattle.std.specs.Ordering.{nat_cmp}
use Rattle.stm_leases.specs.Live.{is_live_in}
use Rattle.stm_exploring.proofs.SmallWorlds.{SoFar}
use Rattle.stm_exploring.proofs.narrowing.have_same_leases.Given as goal

abbrev pub invariant-loop-id : goal.invariant-loop-id
invariant-loop-id l = SoFar nat_cmp (λ (id : ℕ). is_live_in l.one.standing.live id ≡ is_live_in l.other.standing.live id) l.ids.keys l.id-iterator
