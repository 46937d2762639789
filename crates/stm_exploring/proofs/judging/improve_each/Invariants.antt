use Rattle.std.proofs.Common.{◌≡◌, List, length}
use Rattle.stm_program.specs.Syntax.{ProgramTree}
use Rattle.stm_schedules.specs.Places.{Place}
use Rattle.stm_serial_search.specs.Replaying.{AreJudged}
use Rattle.stm_exploring.specs.Judging.{AreAnswers}
use Rattle.stm_exploring.proofs.judging.improve_each.Given as goal

-- there are as many answers as before, and what was so of each is so
abbrev pub invariant-loop-index : goal.invariant-loop-index
invariant-loop-index l = record {
  sized : length l.answers.items ≡ length l.fn.answers.items;
  each : (rules : List ProgramTree) (p : Place) → AreAnswers rules p l.fn.answers.items → AreJudged rules p l.fn.judged.items →
      AreAnswers rules p l.answers.items × AreJudged rules p l.judged.items;
}
