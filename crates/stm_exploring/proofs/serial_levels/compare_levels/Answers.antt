use Rattle.std.proofs.Common.{[], arith}
use Rattle.stm_exploring.specs.declared.serial_levels.SerialLevel.{SerialLevel}
use Rattle.stm_exploring.proofs.LevelLemmas.{same_more}
use Rattle.stm_exploring.proofs.RuleLemmas.{listed_more}
use Rattle.stm_exploring.proofs.SerialLevelLemmas.{serial_levels_more}
use Rattle.stm_exploring.proofs.serial_levels.compare_levels.Goals as goal

pub loop-level-preserved : goal.loop-level-preserved
loop-level-preserved g c =
    let s = c.args.scenario.now in
    let so_far = c.loop-level.invariant in
    let done = c.in_ok-answer.ensures in
    record {
      same = same_more [] [] s c.loop-level.scenario c.compare_level.new.scenario _ done.leveled so_far.same;
      stepless = done.stepless;
      listed = rw c.in_ok-push.ensures.items (listed_more (λ (a : SerialLevel). a.level) c.loop-level.at.items c.in_ok-answer.answer c.args.levels.now
          c.loop-level.level-index _ (omega (arith, c.loop-level-test.true)) done.level so_far.listed);
      found = rw c.in_ok-push.ensures.items (serial_levels_more s c.loop-level.at.items c.in_ok-answer.answer
          c.loop-level.scenario c.compare_level.new.scenario _ done.leveled so_far.same done.level done.answer so_far.found);
    }
