use Rattle.std.proofs.Common.{◌≡◌, ◌+◌, ◌<◌, ◌^◌, length}
use Rattle.std.specs.Vec.Iter.{into_iter_items, into_iter_len}
use Rattle.stm_job_texts.specs.Accepting.{sorted_of, add_events, accepted}
use Rattle.stm_job_texts.proofs.accepting.accept.Given as goal

-- what is accepted of the rest, after what was sorted so far, is what is accepted of all
abbrev pub invariant-loop-event : goal.invariant-loop-event
invariant-loop-event l = record {
  can_next : (goal.iterator-loop-event).can_next l.event-iterator;
  ends : (goal.iterator-loop-event).is_finite l.event-iterator;
  counted : into_iter_len l.event-iterator ≡ length (into_iter_items l.event-iterator);
  room : l.before + into_iter_len l.event-iterator < 2 ^ 64;
  reported : add_events l.first l.before (into_iter_items l.event-iterator) (sorted_of l.sorted) ≡ accepted l.fn.scenario;
}
