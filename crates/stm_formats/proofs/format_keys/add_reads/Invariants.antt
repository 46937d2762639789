use Rattle.std.proofs.Common.{◌≡◌, drop}
use Rattle.stm_formats.specs.FormatKeys.{with_keys, keys_read}
use Rattle.stm_formats.proofs.format_keys.add_reads.Given as goal

-- what the reads that are left add to the keys so far
abbrev pub invariant-loop-read : goal.invariant-loop-read
invariant-loop-read l = with_keys l.most l.keys.items (keys_read (drop l.read-index l.reads)) ≡ with_keys l.most l.fn.keys.items (keys_read l.reads)
