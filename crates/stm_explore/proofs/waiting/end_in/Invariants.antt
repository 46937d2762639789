use Rattle.std.proofs.Common.{◌≡◌, drop}
use Rattle.stm_schedules.specs.Places.{Place}
use Rattle.stm_schedules.specs.Schedules.{place_after}
use Rattle.stm_schedules.specs.Outcomes.{ends_after}
use Rattle.stm_explore.specs.Spots.{place_of}
use Rattle.stm_explore.proofs.waiting.end_in.Given as goal

-- the moves that are left lead to where all lead from the start, and the ends are known that are then
abbrev pub invariant-loop-chosen : goal.invariant-loop-chosen
invariant-loop-chosen l =
    let others = l.waiting.gathered.others.now in
    let start : Place = record { world = l.start; others = others } in
    (place_after (drop l.chosen-index l.moves) (place_of others l.place.at) ≡ place_after l.moves start)
    × (ends_after (drop l.chosen-index l.moves) (place_of others l.place.at) l.place.ends ≡ ends_after l.moves start l.ends)
