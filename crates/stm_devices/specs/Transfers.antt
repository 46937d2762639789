-- What reading to the end and writing to the end do.
use Rattle.std.specs.Prelude.{◌≡◌, ℕ, ◌≤◌, List, ◌++◌, length, take, Bool, true, false, Option, Result, Ok, Err, IfSome}
use Rattle.std.specs.Io.KnownBytes.{Appends, Consumes, IsAtEnd}
use Rattle.stm_devices.specs.declared.transfer.TheConstants.{MOST_READ}
use Rattle.stm_devices.specs.declared.transfer.ReadFault.{ReadFault}
use Rattle.stm_devices.specs.declared.transfer.ReadFault.TheVariants.{OutOfMemory, Device}

-- a failed source is answered where the source has failed
abbrev pub ReadFails : Bool → ReadFault → Type 0
ReadFails failed OutOfMemory = failed ≡ false
ReadFails failed Device = failed ≡ true

-- what reading one piece did: the bytes left before and after, whether the source has failed then, the most bytes that were
-- asked for, the answer, and the bytes read before and after
abbrev pub HasTaken : Option (List ℕ) → Option (List ℕ) → Bool → ℕ → Result ℕ ReadFault → List ℕ → List ℕ → Type 0
HasTaken old new failed most (Ok n) before after =
    (failed ≡ false) × (n ≤ most) × (n ≡ 0 → IsAtEnd new) × (piece : List ℕ) × (length piece ≡ n) × (after ≡ before ++ piece) × Consumes old new piece
HasTaken old new failed most (Err fault) before after = ReadFails failed fault

-- what reading to the end did: the bytes left before, whether the source has failed then, and the answer, seen by view
abbrev pub HasRead : {X : Type 0} → (X → List ℕ) → Option (List ℕ) → Bool → Result X ReadFault → Type 0
HasRead view known failed (Ok x) = (failed ≡ false) × IfSome known (λ all. view x ≡ take MOST_READ all)
HasRead view known failed (Err fault) = ReadFails failed fault

-- a prefix of these bytes was written
abbrev pub WritesFront : Option (List ℕ) → Option (List ℕ) → List ℕ → Type 0
WritesFront old new bytes = (front : List ℕ) × (rest : List ℕ) × (bytes ≡ front ++ rest) × Appends old new front

-- what writing bytes did: the bytes held before and after, whether the sink has failed then, the answer, and the bytes
abbrev pub HasWritten : {A E : Type 0} → Option (List ℕ) → Option (List ℕ) → Bool → Result A E → List ℕ → Type 0
HasWritten old new failed (Ok u) bytes = (failed ≡ false) × Appends old new bytes
HasWritten old new failed (Err e) bytes = (failed ≡ true) × WritesFront old new bytes
