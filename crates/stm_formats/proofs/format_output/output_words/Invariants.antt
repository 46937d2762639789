use Rattle.std.proofs.Common.{◌≡◌, ◌++◌, drop}
use Rattle.stm_formats.specs.FormatOutput.{output_after}
use Rattle.stm_formats.proofs.format_output.output_words.Given as goal

-- the words so far, and those of the values that are left
abbrev pub invariant-loop-count : goal.invariant-loop-count
invariant-loop-count l = l.out.items ++ output_after l.most l.count (drop l.count l.output) ≡ output_after l.most 0 l.output
