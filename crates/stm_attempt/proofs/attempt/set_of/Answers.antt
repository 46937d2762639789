use Rattle.std.specs.Vec.Iter.{into_iter_items}
use Rattle.stm_attempt.proofs.DistinctLemmas.{next_is_new}
use Rattle.stm_attempt.proofs.attempt.set_of.Goals as goal

pub add-requires-clause-new_key : goal.add-requires-clause-new_key
add-requires-clause-new_key c =
    next_is_new c.loop-answer.set (into_iter_items c.loop-answer.answer-iterator) (into_iter_items c.next.new.self) c.args.answers c.in-Some.answer
    c.loop-answer.invariant.reported c.in-Some.ensures.steps.0 c.requires.distinct
