use Rattle.std.proofs.Common.{arith}
use Rattle.stm_exploring.specs.declared.leveled.LevelAnswers.{LevelAnswers}
use Rattle.stm_exploring.proofs.LevelLemmas.{levels_more, same_more}
use Rattle.stm_exploring.proofs.RuleLemmas.{listed_more}
use Rattle.stm_exploring.proofs.leveled.judge_levels.Goals as goal

pub loop-level-preserved : goal.loop-level-preserved
loop-level-preserved g c =
    let s = c.args.scenario.now in
    let so_far = c.loop-level.invariant in
    let done = c.in_ok-answers.ensures in
    record {
      same = same_more c.args.waits.now c.args.rules.now s c.loop-level.scenario c.judge_level.new.scenario _ done.leveled so_far.same;
      stepless = done.stepless;
      listed = rw c.in_ok-push.ensures.items (listed_more (λ (a : LevelAnswers). a.level) c.loop-level.at.items c.in_ok-answers.answers c.args.levels.now
          c.loop-level.level-index _ (omega (arith, c.loop-level-test.true)) done.level so_far.listed);
      found = rw c.in_ok-push.ensures.items (levels_more c.args.waits.now c.args.rules.now s c.loop-level.at.items c.in_ok-answers.answers
          c.loop-level.scenario c.judge_level.new.scenario _ done.leveled so_far.same done.level done.found so_far.found);
    }
