use Rattle.std.proofs.Common.{◌≡◌, drop}
use Rattle.stm_schedules.specs.Outcomes.{outcome_after}
use Rattle.stm_explore.specs.Spots.{place_of}
use Rattle.stm_explore.proofs.replaying.make_moves.Given as goal

-- the moves that are left come to what all come to from the start
abbrev pub invariant-loop-chosen : goal.invariant-loop-chosen
invariant-loop-chosen l =
    outcome_after (drop l.chosen-index l.moves) (place_of l.gathered.others.now l.place.at) l.place.ends
    ≡ outcome_after l.moves (place_of l.gathered.others.now l.fn.start.at) l.fn.start.ends
