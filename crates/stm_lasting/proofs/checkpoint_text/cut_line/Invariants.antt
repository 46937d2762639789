use Rattle.std.proofs.Common.{◌≡◌, ◌++◌, take, drop}
use Rattle.stm_lasting.specs.CheckpointText.{first_line, behind_line}
use Rattle.stm_lasting.proofs.checkpoint_text.cut_line.Given as goal

-- none of the bytes so far is a line feed
abbrev pub invariant-loop-i : goal.invariant-loop-i
invariant-loop-i l =
    (first_line l.text ≡ take l.i l.text ++ first_line (drop l.i l.text)) × (behind_line l.text ≡ behind_line (drop l.i l.text))
