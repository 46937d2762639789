use Rattle.std.proofs.Common.{◌≡◌, ◌++◌, List, ℕ, false, length}
use Rattle.std.specs.Io.KnownBytes.{Appends}
use Rattle.stm_devices.proofs.transfer.write_all.Given as goal

-- a prefix of the bytes was written, and the rest is left
abbrev pub invariant-loop-rest : goal.invariant-loop-rest
invariant-loop-rest g l = record {
  works : g.W.Sink.failed l.sink ≡ false;
  written : (front : List ℕ) × (l.bytes ≡ front ++ l.rest) × Appends (g.W.Sink.held l.fn.sink) (g.W.Sink.held l.sink) front;
}

abbrev pub decreases-loop-rest : goal.decreases-loop-rest
decreases-loop-rest g l = length l.rest
