use Rattle.std.proofs.Common.{◌≤◌, length, take}
use Rattle.stm_exploring.specs.Beginnings.{AreFoundThere}
use Rattle.stm_exploring.proofs.searching.judge_rules.Given as goal

-- as many rules as turns have their answers, or more
abbrev pub invariant-loop-turn : goal.invariant-loop-turn
invariant-loop-turn g l = record {
  within : l.done ≤ length l.rules;
  further : l.turn ≤ l.done;
  found : AreFoundThere l.at (take l.done l.rules) l.answers.items;
}
