use Rattle.std.proofs.Common.{◌≡◌, ◌≤◌, drop}
use Rattle.stm_workers.specs.Calls.{greatest_carried}
use Rattle.stm_workers.proofs.attempts.greatest_revision.Given as goal

-- the greatest of what is found and the rest, and at least what it began with
abbrev pub invariant-loop-answer : goal.invariant-loop-answer
invariant-loop-answer l = record {
  greatest : greatest_carried l.greatest (drop l.answer-index l.answers) ≡ greatest_carried l.fn.seen l.answers;
  at_least : l.fn.seen ≤ l.greatest;
}
