use Rattle.std.proofs.Common.{◌≡◌, ◌++◌, drop}
use Rattle.stm_formats.specs.FormatWords.{ends_after}
use Rattle.stm_formats.proofs.format_words.ends_words.Given as goal

-- the words so far, and those of the leases that are left
abbrev pub invariant-loop-count : goal.invariant-loop-count
invariant-loop-count l = l.out.items ++ ends_after l.count (drop l.count l.expired) ≡ ends_after 0 l.expired
