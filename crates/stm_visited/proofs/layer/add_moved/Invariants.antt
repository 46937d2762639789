use Rattle.std.proofs.Common.{◌≡◌, ◌⊎◌, ℕ, ◌+◌, ◌<◌, ◌≤◌, ◌++◌, List, take}
use Rattle.stm_visited.specs.Layers.{Reached, StandFor, reached_by_each}
use Rattle.stm_visited.proofs.layer.add_moved.Given as goal

abbrev pub invariant-loop-chosen : goal.invariant-loop-chosen
invariant-loop-chosen g l = record {
  stand : (rule : ℕ) (others : List (Reached g.row.S-Place.Denot g.row.S-Move.Denot)) →
      StandFor g.row.S-Place.Denot g.row.S-Move.Denot g.row.S-Shown.Denot (g.S.System.steps l.system rule) l.fn.next.items others →
      StandFor g.row.S-Place.Denot g.row.S-Move.Denot g.row.S-Shown.Denot (g.S.System.steps l.system rule) l.next.items
      (others ++ reached_by_each (g.S.System.steps l.system rule) l.from (take l.chosen-index l.choices));
  taken : (l.next.items ≡ l.fn.next.items) ⊎ (l.budget.left < l.fn.budget.left);
  within : l.budget.left ≤ l.fn.budget.left;
  made : l.budget.left + l.chosen-index ≡ l.fn.budget.left;
}
