use Rattle.std.proofs.Common.{◌-◌, ◌<◌, ◌≤◌, ℕ}
use Rattle.stm_keys.specs.Chains.{events_with}
use Rattle.stm_keys.specs.Runs.{HasKeysOf}
use Rattle.stm_keys.proofs.run.sum_of.Given as goal

-- the keys of the revisions so far
abbrev pub invariant-revisions : goal.invariant-revisions
invariant-revisions l = record {
  opened : l.below ≤ l.number;
  begun : l.from ≤ l.number;
  reported : (number : ℕ) → l.below < number → l.from < number → number ≤ l.number → HasKeysOf l.keys.items (events_with l.below l.revisions.items number);
}

abbrev pub decreases-revisions : goal.decreases-revisions
decreases-revisions l = l.upto - l.number
