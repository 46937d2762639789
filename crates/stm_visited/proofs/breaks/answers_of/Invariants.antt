use Rattle.std.proofs.Common.{◌≡◌, map, take}
use Rattle.stm_visited.specs.Answers.{answer_of}
use Rattle.stm_visited.proofs.breaks.answers_of.Given as goal

-- those of the rules so far
abbrev pub invariant-loop-found : goal.invariant-loop-found
invariant-loop-found g l = l.answers.items ≡ map (answer_of l.ending) (take l.found-index l.founds)
