-- What whole schedules come to.
use Rattle.std.proofs.Common.{◌≡◌, ◌≢◌, ℕ, zero, suc, ◌≤◌, true, false, nat_eq, List, [], ◌∷◌, ◌++◌, length, Result, inl, inr, refl, sym, ◌∙◌, ap, subst, arith}
use Rattle.std.proofs.lemmas.Bool.Decides.{nat_tests}
use Rattle.stm_events.specs.declared.reply.Reply.{Reply}
use Rattle.stm_events.specs.declared.refusal.Denied.{Denied}
use Rattle.stm_world.proofs.Slots.{equal_numbers, differ}
use Rattle.stm_schedules.specs.declared.moves.Move.{Move}
use Rattle.stm_schedules.specs.declared.outcome.Outcome.{Outcome}
use Rattle.stm_schedules.specs.Places.{Place, moves, moved}
use Rattle.stm_schedules.specs.Schedules.{place_after}
use Rattle.stm_schedules.specs.Outcomes.{Ends, after_reported, after_replies, ends_moved, ends_after, shown, outcome_after, Comes, IsOutcomeWithin}
use Rattle.stm_schedules.specs.Outcomes.{outcome_if_whole, outcomes_at, outcomes_up_to, OutcomesAreThose}
use Rattle.stm_schedules.proofs.Members.{IsAmong, among, contained, in_first, in_second, in_either, gathered_from, is_gathered}

-- ---- ends

replies_joined : (first second : List (Result Reply Denied)) (ends : Ends) → after_replies (first ++ second) ends ≡ after_replies second (after_replies first ends)
replies_joined [] second ends = refl
replies_joined (reported ∷ first) second ends = replies_joined first second (after_reported reported ends)

pub ends_go_along : (m : Move) (schedule : List Move) (p : Place) (ends : Ends) →
    ends_after (m ∷ schedule) p ends ≡ ends_after schedule (moved m p) (ends_moved m p ends)
ends_go_along m schedule p ends = grind (arith, nat_tests, replies_joined)

pub goes_along : (m : Move) (schedule : List Move) (p : Place) (ends : Ends) →
    outcome_after (m ∷ schedule) p ends ≡ outcome_after schedule (moved m p) (ends_moved m p ends)
goes_along m schedule p ends = ap (λ (known : Ends). shown (place_after schedule (moved m p)).world known) (ends_go_along m schedule p ends)

-- ---- of exactly n moves

abbrev pub ComesAt : ℕ → Place → Ends → Outcome → Type 0
ComesAt n p ends it = (schedule : List Move) × Comes schedule p ends it × (length schedule ≡ n)

pub whole_here : (p : Place) (ends : Ends) (it : Outcome) (ms : List Move) → moves p ≡ ms → IsAmong it (outcome_if_whole ms p.world ends) → ComesAt zero p ends it
whole_here p ends it ms none a = grind (arith, nat_tests)

pub comes_further : (n : ℕ) (p : Place) (ends : Ends) (it : Outcome) (m : Move) → IsAmong m (moves p) → ComesAt n (moved m p) (ends_moved m p ends) it →
    ComesAt (suc n) p ends it
comes_further n p ends it m a rest = (
  m ∷ rest.0,
  record {
    is_whole = ((contained m (moves p) a, rest.1.is_whole.0), rest.1.is_whole.1);
    to = goes_along m rest.0 p ends ∙ rest.1.to;
  },
  ap suc rest.2,
)

pub comes_at : (n : ℕ) (p : Place) (ends : Ends) (it : Outcome) → IsAmong it (outcomes_at n p ends) → ComesAt n p ends it
comes_at zero p ends it a = whole_here p ends it (moves p) refl a
comes_at (suc n) p ends it a =
    let from = gathered_from (λ (m : Move). outcomes_at n (moved m p) (ends_moved m p ends)) (moves p) it a in
    comes_further n p ends it from.0 from.1 (comes_at n (moved from.0 p) (ends_moved from.0 p ends) it from.2)

pub is_whole_here : (p : Place) (ends : Ends) → moves p ≡ [] → IsAmong (shown p.world ends) (outcome_if_whole (moves p) p.world ends)
is_whole_here p ends none = grind (arith, nat_tests, IsAmong)

pub has_outcome : (n : ℕ) (p : Place) (ends : Ends) (it : Outcome) (schedule : List Move) → Comes schedule p ends it → length schedule ≡ n →
    IsAmong it (outcomes_at n p ends)
has_outcome zero p ends it [] comes is =
    subst (λ (o : Outcome). IsAmong o (outcomes_at zero p ends)) comes.to (is_whole_here p ends comes.is_whole.1)
has_outcome zero p ends it (m ∷ ms) comes is = absurd (omega arith)
has_outcome (suc n) p ends it [] comes is = absurd (omega arith)
has_outcome (suc n) p ends it (m ∷ ms) comes is =
    is_gathered (λ (o : Move). outcomes_at n (moved o p) (ends_moved o p ends)) (moves p) m it (among m (moves p) comes.is_whole.0.0)
    (has_outcome n (moved m p) (ends_moved m p ends) it ms
    (record { is_whole = (comes.is_whole.0.1, comes.is_whole.1); to = sym (goes_along m ms p ends) ∙ comes.to }) (omega arith))

-- ---- of up to n moves

comes_within : (n : ℕ) (p : Place) (ends : Ends) (it : Outcome) → IsAmong it (outcomes_up_to n p ends) → IsOutcomeWithin n p ends it
comes_within zero p ends it a =
    let one = comes_at zero p ends it a in let is : length one.0 ≡ zero = one.2 in (one.0, one.1, omega arith)
comes_within (suc n) p ends it a = elim (in_either it (outcomes_up_to n p ends) (outcomes_at (suc n) p ends) a) [
  | inl fewer ↦ let one = comes_within n p ends it fewer in let is : length one.0 ≤ n = one.2 in (one.0, one.1, omega arith)
  | inr last ↦ let one = comes_at (suc n) p ends it last in let is : length one.0 ≡ suc n = one.2 in (one.0, one.1, omega arith)
]

has_within : (n : ℕ) (p : Place) (ends : Ends) (it : Outcome) (schedule : List Move) → Comes schedule p ends it → length schedule ≤ n →
    IsAmong it (outcomes_up_to n p ends)
has_within zero p ends it schedule comes within = has_outcome zero p ends it schedule comes (omega arith)
has_within (suc n) p ends it schedule comes within =
    elim (nat_eq (length schedule) (suc n)) as (λ b. nat_eq (length schedule) (suc n) ≡ b → IsAmong it (outcomes_up_to (suc n) p ends)) [
      | true ↦ λ e. in_second it (outcomes_up_to n p ends) (outcomes_at (suc n) p ends)
          (has_outcome (suc n) p ends it schedule comes (equal_numbers (length schedule) (suc n) e))
      | false ↦ λ e. let other : length schedule ≢ suc n = differ (length schedule) (suc n) e in
          in_first it (outcomes_up_to n p ends) (outcomes_at (suc n) p ends) (has_within n p ends it schedule comes (omega arith))
    ] refl

pub outcomes_are_those : OutcomesAreThose
outcomes_are_those = record {
  ends = ends_go_along;
  at = λ n p ends it. (
    λ c. comes_at n p ends it (among it (outcomes_at n p ends) c),
    λ one. contained it (outcomes_at n p ends) (has_outcome n p ends it one.0 one.1 one.2),
  );
  up_to = λ n p ends it. (
    λ c. comes_within n p ends it (among it (outcomes_up_to n p ends) c),
    λ one. contained it (outcomes_up_to n p ends) (has_within n p ends it one.0 one.1 one.2),
  );
  all = λ n p ends it longest. (
    λ c. let one = comes_within n p ends it (among it (outcomes_up_to n p ends) c) in (one.0, one.1),
    λ one. contained it (outcomes_up_to n p ends) (has_within n p ends it one.0 one.1 (longest.none_longer one.0 one.1.is_whole.0)),
  );
}
