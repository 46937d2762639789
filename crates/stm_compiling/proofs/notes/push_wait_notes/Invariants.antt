use Rattle.std.proofs.Common.{◌≡◌, ◌++◌, map, drop}
use Rattle.std.specs.Prelude.{string_bytes}
use Rattle.stm_program_source.specs.Texts.{joined}
use Rattle.stm_compiling.specs.Notes.{wait_note}
use Rattle.stm_compiling.proofs.notes.push_wait_notes.Given as goal

-- what was added so far, and the waits that are left
abbrev pub invariant-loop-wait : goal.invariant-loop-wait
invariant-loop-wait l =
    string_bytes l.notes ++ joined (map wait_note (drop l.wait-index l.waits)) ≡ string_bytes l.fn.notes ++ joined (map wait_note l.waits)
