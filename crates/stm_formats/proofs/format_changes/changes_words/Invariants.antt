use Rattle.std.proofs.Common.{◌≡◌, ◌++◌, drop}
use Rattle.stm_formats.specs.FormatChanges.{changes_after}
use Rattle.stm_formats.proofs.format_changes.changes_words.Given as goal

-- the words so far, and those of the events that are left
abbrev pub invariant-loop-count : goal.invariant-loop-count
invariant-loop-count l = l.out.items ++ changes_after l.cuts l.count (drop l.count l.events) ≡ changes_after l.cuts 0 l.events
