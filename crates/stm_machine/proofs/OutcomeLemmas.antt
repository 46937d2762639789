-- One part of a run after another.
use Rattle.std.proofs.Common.{◌≡◌, arith}
use Rattle.std.proofs.lemmas.Bool.Decides.{nat_tests}
use Rattle.stm_steps.specs.Session.{Session}
use Rattle.stm_steps.specs.Outcome.{Outcome, Gives, and_then}

pub and_then_assoc : {X Y Z : Type 0} (o : Outcome X) (f : X → Session → Outcome Y) (g : Y → Session → Outcome Z) →
    and_then (and_then o f) g ≡ and_then o (λ x s. and_then (f x s) g)
and_then_assoc o f g = grind (arith, nat_tests)

-- a part, then a second that takes nothing of it, then a third
pub and_then_assoc_twice : {X Y Z : Type 0} (o : Outcome X) (f : X → Session → Outcome Y) (r : Session → Outcome Y) (g : Y → Session → Outcome Z) →
    and_then (and_then (and_then o f) (λ _. r)) g ≡ and_then o (λ x s. and_then (f x s) (λ _ t. and_then (r t) g))
and_then_assoc_twice o f r g = grind (arith, nat_tests, and_then_assoc)

-- nothing more is left
pub and_then_nothing : (o : Outcome (Unit {0})) → and_then o (λ _ s. Gives tt s) ≡ o
and_then_nothing o = grind (arith, nat_tests)
