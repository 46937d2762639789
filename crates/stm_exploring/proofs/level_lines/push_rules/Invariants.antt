use Rattle.std.proofs.Common.{◌≡◌, ◌++◌, map, take, string_bytes}
use Rattle.std.specs.List.{concat}
use Rattle.stm_exploring.specs.Levels.{level_line_text}
use Rattle.stm_exploring.proofs.level_lines.push_rules.Given as goal

-- the lines so far
abbrev pub invariant-loop-a : goal.invariant-loop-a
invariant-loop-a l = string_bytes l.text ≡ string_bytes l.fn.text ++ concat (map (level_line_text l.level) (take l.a-index l.answers))
