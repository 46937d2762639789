use Rattle.std.proofs.Common.{◌≡◌, ◌≤◌, ◌++◌, length}
use Rattle.stm_formats.specs.FormatEnds.{attempt_reads}
use Rattle.stm_formats.proofs.format_ends.attempt_reads.Given as goal

-- what was read before the events that are left, and the words so far
abbrev pub invariant-loop-left : goal.invariant-loop-left
invariant-loop-left l = record {
  within : l.left ≤ length l.replies;
  reads : attempt_reads l.cuts l.keys.history l.runner l.replies l.left ++ l.words ≡ attempt_reads l.cuts l.keys.history l.runner l.replies l.events;
}

abbrev pub decreases-loop-left : goal.decreases-loop-left
decreases-loop-left l = l.left
