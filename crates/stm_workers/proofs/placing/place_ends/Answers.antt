use Rattle.std.proofs.Common.{rules}
use Rattle.std.proofs.lemmas.List.Sorted.{IsNonDecreasingBy-from_sort_by_key}
use Rattle.stm_workers.specs.declared.worker.EndOf.{EndOf}
use Rattle.stm_workers.proofs.SeatLemmas.{sorted_length, sorted_lost_length, sorted_counted, sorted_places, sorted_ran}
use Rattle.stm_workers.proofs.placing.place_ends.Goals as goal

pub returns-clause-places : goal.returns-clause-places
returns-clause-places c =
    sorted_places _ _ _ c.requires c.sort_unstable_by_key.ensures.permutation
    (IsNonDecreasingBy-from_sort_by_key (λ (e : EndOf). e.job) _ c.sort_unstable_by_key.ensures.sorted (λ a r q k. search rules)) c.in_ok-ends.ensures.ends

pub returns-clause-length : goal.returns-clause-length
returns-clause-length c = (
  sorted_length _ _ _ c.sort_unstable_by_key.ensures.permutation c.in_ok-ends.ensures.ends,
  sorted_lost_length _ _ _ c.sort_unstable_by_key.ensures.permutation c.in_ok-ends.ensures.lost,
)

pub returns-clause-counted : goal.returns-clause-counted
returns-clause-counted c = sorted_counted _ _ _ c.sort_unstable_by_key.ensures.permutation c.in_ok-ends.ensures.ends

pub returns-clause-ran : goal.returns-clause-ran
returns-clause-ran c =
    sorted_ran _ _ _ _ c.requires c.sort_unstable_by_key.ensures.permutation
    (IsNonDecreasingBy-from_sort_by_key (λ (e : EndOf). e.job) _ c.sort_unstable_by_key.ensures.sorted (λ a r q k. search rules)) c.in_ok-ends.ensures.ends
    c.in_ok-ends.ensures.lost
