-- A file that was made by a checkpoint begins with a whole frame, whatever crashes came.
use Rattle.std.specs.Prelude.{◌≡◌, ◌⊎◌, ℕ, List, [], ◌++◌}
use Rattle.stm_frames.specs.Frame.{frame, NoFrame, IsDamaged}

-- damage further on, or the file has bytes and its first frame is none
abbrev pub IsHurt : List ℕ → ℕ → Type 0
IsHurt file at = IsDamaged file at ⊎ ((at ≡ 0) × (file ≡ [] → ⊥) × NoFrame 0 file)

-- nothing yet, or a first frame that is whole
abbrev pub BeginsWhole : List ℕ → Type 0
BeginsWhole file = (file ≡ []) ⊎ ((payload : List ℕ) × (tail : List ℕ) × (file ≡ frame 0 payload ++ tail))
