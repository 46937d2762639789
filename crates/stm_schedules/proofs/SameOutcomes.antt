-- What `==` says of two outcomes.
use Rattle.std.proofs.Common.{rules, ◌≡◌, Decides, List, arith}
use Rattle.std.specs.Cmp.Lexicographic.{pointwise}
use Rattle.std.proofs.lemmas.Bool.Decides.{Decides-like, nat_tests}
use Rattle.std.proofs.lemmas.Slice.Eq.{bytes_eq-Decides}
use Rattle.stm_events.proofs.SameReplies.{lists_decide, values_decide, faults_decide, causes_decide}
use Rattle.stm_schedules.specs.declared.outcome.RunnerEnd.{RunnerEnd}
use Rattle.stm_schedules.specs.contracts.outcome.RunnerEndPartialEq.TheImpl.{eq-value as eq-end}
use Rattle.stm_schedules.specs.declared.outcome.KeyValue.{KeyValue}
use Rattle.stm_schedules.specs.contracts.outcome.KeyValuePartialEq.TheImpl.{eq-value as eq-key}
use Rattle.stm_schedules.specs.declared.outcome.Outcome.{Outcome}
use Rattle.stm_schedules.specs.contracts.outcome.OutcomePartialEq.TheImpl.{eq-value as eq-outcome}

pub end_decides : (a b : RunnerEnd) → Decides (eq-end.it a b) (a ≡ b)
end_decides a b = grind (arith, nat_tests, values_decide, bytes_eq-Decides, Decides-like, faults_decide, causes_decide)

ends_decide : (xs ys : List RunnerEnd) → Decides (pointwise eq-end.it xs ys) (xs ≡ ys)
ends_decide = lists_decide end_decides

keys_decide : (xs ys : List KeyValue) → Decides (pointwise eq-key.it xs ys) (xs ≡ ys)
keys_decide = grind (arith, nat_tests, lists_decide, bytes_eq-Decides)

pub outcome_decides : (a b : Outcome) → Decides (eq-outcome.it a b) (a ≡ b)
outcome_decides a b = search (rules, keys_decide, ends_decide)
