use Rattle.std.proofs.Common.{◌≡◌, drop}
use Rattle.stm_schedules.specs.Places.{Place}
use Rattle.stm_schedules.specs.Schedules.{place_after}
use Rattle.stm_explore.specs.Spots.{place_of}
use Rattle.stm_explore.proofs.exploring.end_after.Given as goal

-- the moves that are left lead to where all lead from the start
abbrev pub invariant-loop-chosen : goal.invariant-loop-chosen
invariant-loop-chosen l =
    let start : Place = record { world = l.start; others = l.judged.others.now } in
    place_after (drop l.chosen-index l.moves) (place_of l.judged.others.now l.place) ≡ place_after l.moves start
