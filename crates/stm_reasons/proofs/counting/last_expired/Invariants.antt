use Rattle.std.proofs.Common.{◌≡◌, drop}
use Rattle.stm_reasons.specs.Counters.{last_expired}
use Rattle.stm_reasons.proofs.counting.last_expired.Given as goal

-- the last of those that are left, or of those so far
abbrev pub invariant-loop-lease : goal.invariant-loop-lease
invariant-loop-lease l = last_expired l.last (drop l.lease-index l.expired) ≡ last_expired l.before l.expired
