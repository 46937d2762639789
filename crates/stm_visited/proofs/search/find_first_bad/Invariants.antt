use Rattle.std.proofs.Common.{◌≡◌, ◌+◌, ◌≤◌, ℕ, length}
use Rattle.stm_visited.specs.Search.{count_up_to}
use Rattle.stm_visited.proofs.SearchLemmas.{AreKnown, HaveCome}
use Rattle.stm_visited.proofs.search.find_first_bad.Given as goal

abbrev pub invariant-loop-kept : goal.invariant-loop-kept
invariant-loop-kept g l = record {
  come : HaveCome (g.S.System.steps l.system) l.fn.start l.kept l.layer.items;
  known : AreKnown (g.S.System.steps l.system) l.fn.start l.kept l.founds.items;
  each : length l.founds.items ≡ l.rules;
  within : l.kept + l.budget.left ≤ l.fn.budget.left;
  made : (n : ℕ) → l.fn.budget.left ≤ l.budget.left + count_up_to (g.S.System.steps l.system n) l.kept l.fn.start;
}
