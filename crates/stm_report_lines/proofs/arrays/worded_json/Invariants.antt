use Rattle.std.proofs.Common.{◌≡◌, ◌∷◌, map, take}
use Rattle.serde_json.specs.Data.{string}
use Rattle.serde_json.specs.View.{view}
use Rattle.stm_report_lines.proofs.arrays.worded_json.Given as goal

-- the word, and the parts so far
abbrev pub invariant-loop-part : goal.invariant-loop-part
invariant-loop-part g l = map view l.values.items ≡ string l.word ∷ map (λ part. (goal.Spelled-dyn g part.now).spelled part.now.1) (take l.part-index l.parts)
