use Rattle.std.proofs.Common.{◌≡◌, ◌≢◌, ◌<◌, ℕ}
use Rattle.stm_leases.specs.Tournament.{IsPlayedBut, slot_of}
use Rattle.stm_leases.proofs.tournament.Tournament.set.Given as goal

-- all but one node on the path is played, and the slots hold what they are to hold
abbrev pub invariant-loop-node : goal.invariant-loop-node
invariant-loop-node l = record {
  played : IsPlayedBut l.self l.node;
  inner : l.node < l.self.slots;
  slots : l.self.slots ≡ l.fn.self.slots;
  written : slot_of l.self l.slot ≡ l.fn.entry;
  kept : (other : ℕ) → other ≢ l.slot → slot_of l.self other ≡ slot_of l.fn.self other;
}

abbrev pub decreases-loop-node : goal.decreases-loop-node
decreases-loop-node l = l.node
