use Rattle.std.proofs.Common.{All}
use Rattle.stm_driving.specs.AtOnce.{IsReadNow}
use Rattle.stm_driving.proofs.at_once.read_keys.Given as goal

-- each key that was read is read as it is
abbrev pub invariant-loop-key : goal.invariant-loop-key
invariant-loop-key l = All (IsReadNow l.store.standing.history) l.reads
