use Rattle.std.proofs.Common.{◌≡◌, map}
use Rattle.std.specs.Map.Iter.{deref}
use Rattle.stm_program.proofs.latest.copy_latest.Given as goal

-- copies of the writes so far
abbrev pub invariant-loop-write : goal.invariant-loop-write
invariant-loop-write l = l.copies.items ≡ map (λ w. w.now) (map deref l.yielded)
