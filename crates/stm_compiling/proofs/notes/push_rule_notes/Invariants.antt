use Rattle.std.proofs.Common.{◌≡◌, ◌++◌, map, drop}
use Rattle.std.specs.Prelude.{string_bytes}
use Rattle.stm_program_source.specs.Texts.{joined}
use Rattle.stm_compiling.specs.Notes.{rule_note}
use Rattle.stm_compiling.proofs.notes.push_rule_notes.Given as goal

-- what was added so far, and the rules that are left
abbrev pub invariant-loop-rule : goal.invariant-loop-rule
invariant-loop-rule l =
    string_bytes l.notes ++ joined (map rule_note (drop l.rule-index l.rules)) ≡ string_bytes l.fn.notes ++ joined (map rule_note l.rules)
