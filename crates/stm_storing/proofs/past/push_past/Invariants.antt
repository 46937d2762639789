use Rattle.std.proofs.Common.{◌≡◌, ◌++◌, map, string_bytes}
use Rattle.std.specs.List.{concat}
use Rattle.stm_storing.specs.Past.{state_text}
use Rattle.stm_storing.proofs.past.push_past.Given as goal

-- the text so far, and the lines that are left
abbrev pub invariant-loop-entry : goal.invariant-loop-entry
invariant-loop-entry l =
    string_bytes l.text ++ concat (map state_text l.entry-iterator) ≡ string_bytes l.fn.text ++ concat (map state_text l.past.entries)
