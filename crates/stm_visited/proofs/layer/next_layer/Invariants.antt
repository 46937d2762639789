use Rattle.std.proofs.Common.{◌≡◌, ◌⊎◌, ◌<◌, ◌≤◌, [], length}
use Rattle.std.specs.Vec.Iter.{into_iter_items, into_iter_len}
use Rattle.stm_visited.proofs.SearchLemmas.{HasGoneOn}
use Rattle.stm_visited.proofs.layer.next_layer.Given as goal

abbrev pub invariant-loop-from : goal.invariant-loop-from
invariant-loop-from g l = record {
  can_next : (goal.iterator-loop-from g).can_next l.from-iterator;
  ends : (goal.iterator-loop-from g).is_finite l.from-iterator;
  counted : into_iter_len l.from-iterator ≡ length (into_iter_items l.from-iterator);
  gone : HasGoneOn g.row.S-Place.Denot g.row.S-Move.Denot g.row.S-Shown.Denot (g.S.System.steps l.system) l.fn.layer.items (into_iter_items l.from-iterator) l.next.items
      l.fn.budget.left l.budget.left;
  taken : (l.next.items ≡ []) ⊎ (l.budget.left < l.fn.budget.left);
  within : l.budget.left ≤ l.fn.budget.left;
}
