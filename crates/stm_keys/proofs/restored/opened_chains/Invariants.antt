use Rattle.std.proofs.Common.{◌≡◌, List, ℕ, take}
use Rattle.std.specs.Map.{keys_of}
use Rattle.std.specs.Ordering.{nat_cmp}
use Rattle.std.specs.Cmp.Lexicographic.{slice_cmp}
use Rattle.std.specs.FinMap.{find}
use Rattle.indexmap.specs.IndexMap.{get_by_text}
use Rattle.stm_keys.specs.Chains.{versions_in, names_of}
use Rattle.stm_keys.proofs.OpenedChains.{versions_before}
use Rattle.stm_keys.proofs.restored.opened_chains.Given as goal

-- the chains of the states so far
abbrev pub invariant-loop-entry : goal.invariant-loop-entry
invariant-loop-entry l = record {
  versions : (key : List ℕ) → versions_in (get_by_text l.chains key) ≡ versions_before (find (slice_cmp nat_cmp) key (take l.entry-index l.states));
  names : names_of l.chains ≡ keys_of (take l.entry-index l.states);
}
