use Rattle.std.proofs.Common.{◌≡◌, All, map, take}
use Rattle.stm_program.specs.declared.level.Level.{Level}
use Rattle.stm_serial_search.specs.Started.{HaveNoStep}
use Rattle.stm_exploring.specs.declared.leveled.LevelAnswers.{LevelAnswers}
use Rattle.stm_exploring.specs.Judging.{AreFound}
use Rattle.stm_exploring.specs.Levels.{leveled}
use Rattle.stm_exploring.proofs.leveled.judge_levels.Given as goal

-- the answers so far are those at the levels so far, and at a level the scenario is what it was there before
abbrev pub invariant-loop-level : goal.invariant-loop-level
invariant-loop-level g l = record {
  same : (k : Level) → leveled k l.scenario ≡ leveled k l.fn.scenario;
  stepless : HaveNoStep l.scenario.events;
  listed : map (λ (a : LevelAnswers). a.level) l.at.items ≡ take l.level-index l.levels;
  found : All (λ (a : LevelAnswers). AreFound l.waits l.rules (leveled a.level l.fn.scenario) a.answers) l.at.items;
}
