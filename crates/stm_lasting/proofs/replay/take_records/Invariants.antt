use Rattle.std.proofs.Common.{◌≡◌, drop}
use Rattle.stm_frames.specs.Frame.{at_places}
use Rattle.stm_lasting.specs.Kept.{led}
use Rattle.stm_lasting.proofs.replay.take_records.Given as goal

-- the records that are left lead from here where all of them led from the start
abbrev pub invariant-loop-place : goal.invariant-loop-place
invariant-loop-place l =
    led (at_places l.bytes (drop l.place-index l.places)) l.world ≡ led (at_places l.bytes l.places) l.fn.world
