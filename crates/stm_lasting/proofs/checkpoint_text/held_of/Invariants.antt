use Rattle.std.proofs.Common.{◌≡◌, option_map}
use Rattle.std.specs.Vec.Iter.{into_iter_items}
use Rattle.stm_lasting.specs.CheckpointText.{held_in}
use Rattle.stm_lasting.specs.Stages.{left_in, joined}
use Rattle.stm_lasting.proofs.checkpoint_text.held_of.Given as goal

-- what was taken, and what is left, is what all of the lines say
abbrev pub invariant-loop-line : goal.invariant-loop-line
invariant-loop-line l = record {
  can_next : (goal.iterator-loop-line).can_next l.line-iterator;
  ends : (goal.iterator-loop-line).is_finite l.line-iterator;
  said : held_in l.fn.report.lines ≡ option_map (joined l.held) (left_in l.stage (into_iter_items l.line-iterator));
}
