-- Runners that are alike.
use Rattle.std.proofs.Common.{◌≡◌, ℕ, List, arith}
use Rattle.std.proofs.lemmas.Bool.Decides.{nat_tests}
use Rattle.stm_history.specs.declared.key_state.ReadAnswer.{ReadAnswer}
use Rattle.stm_program.specs.Syntax.{ProgramTree}
use Rattle.stm_program.specs.declared.level.Level.{Level}
use Rattle.stm_attempt.specs.Known.{known_of}
use Rattle.stm_world.specs.Task.{with_served}
use Rattle.stm_world.specs.World.{Runner}
use Rattle.stm_alike.specs.Levelled.{reads_seen}
use Rattle.stm_alike.proofs.SeenAttempts.{seen_gone}
use Rattle.stm_alike.specs.Seen.{seen_runner}
use Rattle.stm_retry.specs.RunnerView.{task_of}

abbrev pub runner_of : ProgramTree → Level → ℕ → ℕ → List ReadAnswer → List ReadAnswer → Runner
runner_of program level limit failures reads prefetched = record {
  task = task_of program level limit;
  failures = failures;
  known = with_served (task_of program level limit) (known_of reads prefetched);
}

pub runners_alike : (p1 p2 : ProgramTree) (l1 l2 : Level) (n1 n2 f1 f2 : ℕ) (r1 r2 q1 q2 : List ReadAnswer) → p1 ≡ p2 → l1 ≡ l2 → n1 ≡ n2 → f1 ≡ f2 →
    reads_seen l1 q1 r1 ≡ reads_seen l1 q1 r2 → q1 ≡ q2 → seen_runner (runner_of p1 l1 n1 f1 r1 q1) ≡ seen_runner (runner_of p2 l2 n2 f2 r2 q2)
runners_alike p1 p2 l1 l2 n1 n2 f1 f2 r1 r2 q1 q2 p l n f r q = grind (arith, nat_tests, seen_gone)
