use Rattle.std.proofs.Common.{◌≡◌, ◌++◌, drop}
use Rattle.stm_formats.specs.FormatWrap.{wrapped}
use Rattle.stm_formats.proofs.format_wrap.push_wrapped.Given as goal

-- what was added, and the words that are left, in the lines that they go on in
abbrev pub invariant-loop-index : goal.invariant-loop-index
invariant-loop-index l =
    l.out.items ++ wrapped l.room l.indent l.left (drop l.index l.words) ≡ l.fn.out.items ++ wrapped l.room l.indent l.room l.words
