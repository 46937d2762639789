use Rattle.std.proofs.Common.{◌≡◌, ◌&&◌, option_copied, drop}
use Rattle.stm_keys.specs.CanOpen.{can_open}
use Rattle.stm_txn.specs.Restored.{can_follow}
use Rattle.stm_txn.proofs.restored.can_open.Given as goal

-- what is left decides, and has to stand behind what was
abbrev pub invariant-loop-entry : goal.invariant-loop-entry
invariant-loop-entry l =
    can_open l.revision l.states ≡ (can_follow (option_copied l.before) (drop l.entry-index l.states) && can_open l.revision (drop l.entry-index l.states))
