use Rattle.std.proofs.Common.{◌≡◌}
use Rattle.stm_program.specs.Syntax.{ProgramTree}
use Rattle.stm_attempt.specs.Known.{known_of}
use Rattle.stm_attempt.specs.Settled.{settled}
use Rattle.stm_attempt.specs.Progress.{FinishesAs, Extends}
use Rattle.stm_attempt.proofs.Unread.{unread}
use Rattle.stm_attempt.proofs.progress.settle.Given as goal

-- the machine still finishes as the run, and settling comes to the same from here on
abbrev pub invariant-answers : goal.invariant-answers
invariant-answers l = record {
  finishes : (program : ProgramTree) → FinishesAs program l.fn.reads l.fn.machine → FinishesAs program l.reads l.machine;
  settles : (program : ProgramTree) → FinishesAs program l.fn.reads l.fn.machine
      → settled program (known_of l.reads l.prefetched) ≡ settled program (known_of l.fn.reads l.prefetched);
  extends : Extends l.fn.reads l.reads;
}

-- the prefetched answers of keys that were not read
abbrev pub decreases-answers : goal.decreases-answers
decreases-answers l = unread l.reads l.prefetched
