-- What `==` says of two events.
use Rattle.std.proofs.Common.{◌≡◌, Decides, arith}
use Rattle.std.proofs.lemmas.Bool.Decides.{Decides-eqb, nat_tests}
use Rattle.std.proofs.lemmas.Slice.Eq.{bytes_eq-Decides}
use Rattle.stm_history.proofs.SameStates.{state_decides}
use Rattle.stm_keys.specs.declared.event.Event.{Event}
use Rattle.stm_keys.specs.contracts.event.EventPartialEq.TheImpl.{eq-value}

pub event_decides : (a b : Event) → Decides (eq-value.it a b) (a ≡ b)
event_decides a b = grind (arith, nat_tests, bytes_eq-Decides, state_decides, Decides-eqb)
