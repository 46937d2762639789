-- What a read and a write do to a device.
use Rattle.std.specs.Prelude.{◌≡◌, ℕ, ◌<◌, ◌≤◌, List, length, take, Bool, true, false, Option, Result, Ok, Err}
use Rattle.std.specs.Io.KnownBytes.{Appends, Consumes, Keeps, IsAtEnd}

-- what a read did: the bytes left before and after, whether the device has failed then, the answer, and the buffer
abbrev pub Reads : {E : Type 0} → Option (List ℕ) → Option (List ℕ) → Bool → Result ℕ E → List ℕ → Type 0
Reads old new failed (Ok n) buffer =
    (failed ≡ false) × (n ≤ length buffer) × Consumes old new (take n buffer) × (n ≡ 0 → 0 < length buffer → IsAtEnd new)
Reads old new failed (Err e) buffer = failed ≡ true

-- what a write did: the bytes held before and after, whether the device has failed then, the answer, and the bytes
abbrev pub Writes : {E : Type 0} → Option (List ℕ) → Option (List ℕ) → Bool → Result ℕ E → List ℕ → Type 0
Writes old new failed (Ok n) bytes = (failed ≡ false) × (0 < n) × (n ≤ length bytes) × Appends old new (take n bytes)
Writes old new failed (Err e) bytes = (failed ≡ true) × Keeps old new
