use Rattle.std.proofs.Common.{◌≡◌, ◌+◌, map, drop, false}
use Rattle.std.specs.Prelude.{string_bytes}
use Rattle.stm_arguments.specs.Cutting.{place_from}
use Rattle.stm_arguments.proofs.cutting.up_to_place.Given as goal

-- none of the words so far stands in a place
abbrev pub invariant-loop-index : goal.invariant-loop-index
invariant-loop-index l =
    place_from false (map string_bytes l.words) ≡ l.index + place_from l.is_value (map string_bytes (drop l.index l.words))
