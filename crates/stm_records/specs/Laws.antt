-- What holds across a restart.
use Rattle.std.specs.Prelude.{◌≡◌, ◌⊎◌, ℕ, ◌+◌, ◌^◌, ◌<◌, List, [], ◌∷◌, ◌++◌, length, take, drop}
use Rattle.stm_frames.specs.Frame.{log, NoFrame, Opens, IsDamaged}
use Rattle.stm_records.specs.Head.{IsHurt}
use Rattle.stm_records.specs.RecordFiles.{IsBeforeOrAfter, NoChance, OpensAlike}

-- A file of acknowledged payloads, one more in flight, a crash, and an opening: what is served is what was acknowledged, in order, with the one in flight or without.
abbrev pub ServesTheAcknowledged : Type 0
ServesTheAcknowledged =
    (file payload c : List ℕ) (acknowledged served : List (List ℕ)) → length c < 2 ^ 64 → file ≡ log 0 acknowledged
    → IsBeforeOrAfter file payload c → NoChance file payload c → Opens c served → (served ≡ acknowledged) ⊎ (served ≡ acknowledged ++ payload ∷ [])

-- A frame that is not the last, and whose bytes are no frame any more: nothing is served, and its offset is told.
abbrev pub TellsDamage : Type 0
TellsDamage =
    (c : List ℕ) (before behind : List (List ℕ)) (at size : ℕ) (next : List ℕ) → length c < 2 ^ 64 → at ≡ length (log 0 before)
    → take at c ≡ log 0 before → NoFrame at (drop at c) → drop (at + size) c ≡ log (at + size) (next ∷ behind)
    → IsDamaged c at × ((served : List (List ℕ)) → Opens c served → ⊥) × ((told : ℕ) → IsDamaged c told → told ≡ at)

-- What is left of a file that is hurt is the file itself.
abbrev pub LeavesTheHurt : Type 0
LeavesTheHurt = (file c : List ℕ) (at : ℕ) → length file < 2 ^ 64 → IsHurt file at → OpensAlike file c → c ≡ file
