use Rattle.std.proofs.Common.{◌≡◌, ◌∷◌, map, take}
use Rattle.serde_json.specs.Data.{string}
use Rattle.serde_json.specs.View.{view}
use Rattle.stm_report_lines.specs.LineData.{whole}
use Rattle.stm_report_lines.proofs.written_lines.line.Given as goal

-- the number, the word, and the parts so far
abbrev pub invariant-loop-part : goal.invariant-loop-part
invariant-loop-part g l =
    map view l.values.items
    ≡ whole l.fn.number ∷ string l.word ∷ map (λ part. (goal.Spelled-dyn g part.now).spelled part.now.1) (take l.part-index l.parts)
