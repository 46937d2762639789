-- What `==` says of two states of a key.
use Rattle.std.proofs.Common.{rules, ◌≡◌, Decides}
use Rattle.std.proofs.lemmas.Bool.Decides.{Decides-eqb}
use Rattle.std.proofs.lemmas.Slice.Eq.{bytes_eq-Decides}
use Rattle.stm_history.specs.declared.key_state.KeyState.{KeyState}
use Rattle.stm_history.specs.contracts.key_state.KeyStatePartialEq.TheImpl.{eq-value}

pub state_decides : (a b : KeyState) → Decides (eq-value.it a b) (a ≡ b)
state_decides a b = search (rules, bytes_eq-Decides, Decides-eqb)
