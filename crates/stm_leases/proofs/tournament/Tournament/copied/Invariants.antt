use Rattle.std.proofs.Common.{◌≡◌, ◌<◌, ◌≤◌, ℕ, None}
use Rattle.stm_leases.specs.Tournament.{IsPlayed, slot_of}
use Rattle.stm_leases.proofs.tournament.Tournament.copied.Given as goal

-- the slots so far are copied, and the others empty
abbrev pub invariant-loop-slot : goal.invariant-loop-slot
invariant-loop-slot l = record {
  played : IsPlayed l.grown;
  slots : l.grown.slots ≡ l.fn.slots;
  copied : (other : ℕ) → other < l.slot → slot_of l.grown other ≡ slot_of l.self other;
  empty : (other : ℕ) → l.slot ≤ other → slot_of l.grown other ≡ None;
}
