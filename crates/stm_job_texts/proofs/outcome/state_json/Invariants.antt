use Rattle.std.proofs.Common.{◌≡◌, ◌<◌, ◌++◌, drop, map}
use Rattle.serde_json.specs.View.{view}
use Rattle.stm_meaning.specs.States.{IsAscending}
use Rattle.stm_job_texts.specs.Outcomes.{pairs}
use Rattle.stm_job_texts.proofs.outcome.state_json.Given as goal

-- the keys so far, and those that are left; once a key was looked at, the keys are known to ascend
abbrev pub invariant-loop-i : goal.invariant-loop-i
invariant-loop-i l = record {
  reported : map view l.values.items ++ pairs (drop l.i l.state) ≡ pairs l.state;
  rises : 0 < l.i → IsAscending l.state;
}
