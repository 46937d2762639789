use Rattle.std.proofs.Common.{◌≡◌, map, take}
use Rattle.serde_json.specs.View.{view}
use Rattle.stm_report_lines.proofs.arrays.parts_json.Given as goal

-- the parts so far
abbrev pub invariant-loop-part : goal.invariant-loop-part
invariant-loop-part g l = map view l.values.items ≡ map (λ part. (goal.Spelled-dyn g part.now).spelled part.now.1) (take l.part-index l.parts)
