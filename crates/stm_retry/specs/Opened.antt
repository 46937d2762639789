-- What the store of a world opened with.
use Rattle.std.specs.Prelude.{[], Option, None, Some}
use Rattle.stm_history.specs.Opening.{States}

-- the states that are held, if any are
abbrev pub states_held : {A : Type 0} → (A → States) → Option A → States
states_held of None = []
states_held of (Some a) = of a
