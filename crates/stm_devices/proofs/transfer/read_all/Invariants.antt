use Rattle.std.proofs.Common.{◌≡◌, ◌≤◌, ◌+◌, ◌-◌, false, length, vec_len}
use Rattle.std.specs.Io.KnownBytes.{Consumes}
use Rattle.stm_devices.specs.declared.transfer.TheConstants.{MOST_READ, PIECE}
use Rattle.stm_devices.proofs.transfer.read_all.Given as goal

-- the bytes so far were taken from the source, at least one by each read
abbrev pub invariant-loop-buffer : goal.invariant-loop-buffer
invariant-loop-buffer g l = record {
  sized : length l.buffer ≡ PIECE;
  works : g.S.Source.failed l.source ≡ false;
  long : vec_len l.bytes ≤ MOST_READ;
  taken : Consumes (g.S.Source.left l.fn.source) (g.S.Source.left l.source) l.bytes.items;
  counted : g.S.Source.reads l.source ≤ g.S.Source.reads l.fn.source + vec_len l.bytes;
}

abbrev pub decreases-loop-buffer : goal.decreases-loop-buffer
decreases-loop-buffer g l = MOST_READ - vec_len l.bytes
