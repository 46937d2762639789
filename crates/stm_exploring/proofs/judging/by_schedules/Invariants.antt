use Rattle.std.proofs.Common.{◌≡◌, ◌++◌, length, map}
use Rattle.std.specs.Vec.Iter.{into_iter_items, into_iter_len}
use Rattle.stm_exploring.specs.declared.judging.Answer.TheVariants.{BySchedules}
use Rattle.stm_exploring.proofs.judging.by_schedules.Given as goal

-- the answers so far, followed by those that are left
abbrev pub invariant-loop-explored : goal.invariant-loop-explored
invariant-loop-explored l = record {
  can_next : (goal.iterator-loop-explored).can_next l.explored-iterator;
  ends : (goal.iterator-loop-explored).is_finite l.explored-iterator;
  counted : into_iter_len l.explored-iterator ≡ length (into_iter_items l.explored-iterator);
  so_far : l.answers.items ++ map BySchedules (into_iter_items l.explored-iterator) ≡ map BySchedules l.fn.all.items;
}
