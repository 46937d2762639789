use Rattle.std.proofs.Common.{◌≡◌, ◌++◌}
use Rattle.std.specs.Vec.Iter.{into_iter_items}
use Rattle.stm_workers.specs.Drawn.{ends_in, lost_in}
use Rattle.stm_workers.proofs.placing.parts_of.Given as goal

-- the ends and the keys so far, followed by those that are left
abbrev pub invariant-loop-ended_job : goal.invariant-loop-ended_job
invariant-loop-ended_job l = record {
  can_next : (goal.iterator-loop-ended_job).can_next l.ended_job-iterator;
  ends : (goal.iterator-loop-ended_job).is_finite l.ended_job-iterator;
  reported : l.ends.items ++ ends_in (into_iter_items l.ended_job-iterator) ≡ ends_in l.fn.ended.items;
  noted : l.all.items ++ lost_in (into_iter_items l.ended_job-iterator) ≡ lost_in l.fn.ended.items;
}
