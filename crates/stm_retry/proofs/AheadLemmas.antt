-- What a runner's program comes to says what its next step does.
use Rattle.std.proofs.Common.{◌≡◌, ℕ, List, arith}
use Rattle.std.proofs.lemmas.Bool.Decides.{nat_tests}
use Rattle.stm_txn.specs.Standing.{Standing, kept}
use Rattle.stm_world.specs.Sound.{IsSound}
use Rattle.stm_world.specs.World.{World, Slot, runner_at}
use Rattle.stm_retry.specs.AtBase.{FetchesIn, NextIsAtBase}

-- ---- in a world

pub next_is_at_base : (id : ℕ) (w : World) (slots : List Slot) (store : Standing) (floor : ℕ) → IsSound w → store ≡ kept w.standing → floor ≡ store.floor → floor ≡ 0 →
    slots ≡ w.runners → FetchesIn (runner_at id slots) → NextIsAtBase id w
next_is_at_base id w slots store floor sound is floor_is none same fetches = grind (arith, nat_tests)
