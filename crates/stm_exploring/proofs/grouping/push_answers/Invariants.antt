use Rattle.std.proofs.Common.{◌≡◌, ◌+◌, ◌++◌, List, length, map, take, drop}
use Rattle.std.specs.Vec.Iter.{into_iter_items, into_iter_len}
use Rattle.stm_schedules.specs.Outcomes.{Ends}
use Rattle.stm_schedules.specs.Places.{Place}
use Rattle.stm_explore.specs.declared.waits.Wait.{Wait}
use Rattle.stm_exploring.specs.declared.rules.Rule.{Rule}
use Rattle.stm_exploring.specs.Judging.{AreFoundEach, AreFoundFrom}
use Rattle.stm_exploring.proofs.AnswerLemmas.{AreLeft}
use Rattle.stm_exploring.proofs.grouping.push_answers.Given as goal

-- the rules so far have their answers, and those after them have the answers that are left
abbrev pub invariant-loop-answer : goal.invariant-loop-answer
invariant-loop-answer l = record {
  can_next : (goal.iterator-loop-answer).can_next l.answer-iterator;
  ends : (goal.iterator-loop-answer).is_finite l.answer-iterator;
  counted : into_iter_len l.answer-iterator ≡ length (into_iter_items l.answer-iterator);
  each : l.index + length (into_iter_items l.answer-iterator) ≡ length l.rules;
  left : (waits : List Wait) (p : Place) (ends : Ends) → AreFoundEach l.fn.when waits (map (λ (rule : Rule). rule.program) l.rules) p ends l.fn.found.items →
      AreLeft l.fn.when waits p ends (drop l.index l.rules) (into_iter_items l.answer-iterator);
  so_far : (waits : List Wait) (p : Place) (ends : Ends) (before : List Rule) →
      AreFoundEach l.fn.when waits (map (λ (rule : Rule). rule.program) l.rules) p ends l.fn.found.items →
      AreFoundFrom waits before p ends l.fn.answers.items → AreFoundFrom waits (before ++ take l.index l.rules) p ends l.answers.items;
}
