use Rattle.std.proofs.Common.{◌≡◌, ◌++◌, drop}
use Rattle.stm_formats.specs.FormatWords.{reads_after}
use Rattle.stm_formats.proofs.format_words.reads_words.Given as goal

-- the words so far, and those of the reads that are left
abbrev pub invariant-loop-count : goal.invariant-loop-count
invariant-loop-count l =
    l.out.items ++ reads_after l.cuts l.keys.history l.revision l.count (drop l.count l.reads) ≡ reads_after l.cuts l.keys.history l.revision 0 l.reads
