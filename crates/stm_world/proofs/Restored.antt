-- A world that opens with keys and leases is sound.
use Rattle.std.proofs.Common.{◌≡◌, true, arith}
use Rattle.std.proofs.lemmas.Bool.Decides.{nat_tests}
use Rattle.stm_txn.specs.declared.restored.Checkpoint.{Checkpoint}
use Rattle.stm_txn.specs.Restored.{can_restore}
use Rattle.stm_txn.proofs.RestoredLemmas.{grants_are, few_operations}
use Rattle.stm_entries.proofs.Restored.{grants_replay, grants_legal}
use Rattle.stm_world.specs.Sound.{IsSound}
use Rattle.stm_world.specs.Restored.{restored_world}
use Rattle.stm_world.proofs.Slots.{no_runner}

pub restored_is_sound : (c : Checkpoint) → can_restore c ≡ true → IsSound (restored_world c)
restored_is_sound c can = grind (arith, nat_tests, grants_replay, grants_legal, grants_are, no_runner, few_operations)
