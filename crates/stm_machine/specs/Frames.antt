-- The parts that wait, innermost first, and for how many more there is room.
use Rattle.std.specs.Prelude.{ℕ, List, [], ◌∷◌, Option, None, Some}
use Rattle.stm_machine.specs.declared.frame.Frame.{Frame}

pub record Frames : Type 0 where
  pub frames : List Frame
  pub room : ℕ

-- the innermost part, and those round it
abbrev pub top_of : List Frame → Option Frame
top_of [] = None
top_of (f ∷ frames) = Some f

abbrev pub below_top : List Frame → List Frame
below_top [] = []
below_top (f ∷ frames) = frames
