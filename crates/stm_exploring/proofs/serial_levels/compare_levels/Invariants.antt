use Rattle.std.proofs.Common.{◌≡◌, All, map, take}
use Rattle.stm_program.specs.declared.level.Level.{Level}
use Rattle.stm_serial_search.specs.Started.{HaveNoStep}
use Rattle.stm_explore.specs.Orders.{IsSerialAnswer}
use Rattle.stm_exploring.specs.declared.serial_levels.SerialLevel.{SerialLevel}
use Rattle.stm_exploring.specs.Asking.{ends_of, place_of}
use Rattle.stm_exploring.specs.Levels.{leveled}
use Rattle.stm_exploring.proofs.serial_levels.compare_levels.Given as goal

-- the answers so far are those at the levels so far, and at a level the scenario is what it was there before
abbrev pub invariant-loop-level : goal.invariant-loop-level
invariant-loop-level g l = record {
  same : (k : Level) → leveled k l.scenario ≡ leveled k l.fn.scenario;
  stepless : HaveNoStep l.scenario.events;
  listed : map (λ (a : SerialLevel). a.level) l.at.items ≡ take l.level-index l.levels;
  found : All (λ (a : SerialLevel). IsSerialAnswer (place_of (leveled a.level l.fn.scenario)) (ends_of (leveled a.level l.fn.scenario)) a.answer) l.at.items;
}
