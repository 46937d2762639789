-- What a file of records holds, and what a crash makes of it.
use Rattle.std.specs.Prelude.{◌≡◌, ◌⊎◌, ℕ, ◌+◌, Bool, IsTrue, List, [], ◌∷◌, ◌++◌, length, drop}
use Rattle.stm_frames.specs.Frame.{frame, log, Opens, at_places}
use Rattle.stm_records.specs.Disk.{Only}
use Rattle.stm_records.specs.Head.{BeginsWhole}
use Rattle.stm_records.specs.declared.record_file.RecordFile.{RecordFile}
use Rattle.stm_records.specs.declared.opening.Opened.{Opened}

-- it knows where its file ends, all of the file is on the disk, and no call has failed
pub record IsSettled {D : Type 0} (is_usable : D → Bool) (seen : D → List ℕ) (may_leave : D → List ℕ → Type 0) (records : RecordFile D) : Type 0 where
  pub end : records.end ≡ length (seen records.disk)
  pub durable : Only (seen records.disk) (may_leave records.disk)
  pub usable : IsTrue (is_usable records.disk)

-- Of what a crash left of this file and the frame behind it: no bytes behind the file are a frame by chance. Only if the whole frame was written does a frame begin there.
abbrev pub NoChance : List ℕ → List ℕ → List ℕ → Type 0
NoChance file payload c = (k : ℕ) (other tail : List ℕ) → drop (length file + k) c ≡ frame (length file + k) other ++ tail → c ≡ file ++ frame (length file) payload

-- it opens to the payloads of the file, with the new one or without
abbrev pub IsBeforeOrAfter : List ℕ → List ℕ → List ℕ → Type 0
IsBeforeOrAfter file payload c = (payloads : List (List ℕ)) → file ≡ log 0 payloads → NoChance file payload c → Opens c payloads ⊎ Opens c (payloads ++ payload ∷ [])

-- once the file has a record, what is left begins with a whole frame if the file does
abbrev pub KeepsHead : List ℕ → List ℕ → Type 0
KeepsHead file c = (file ≡ [] → ⊥) → BeginsWhole file → BeginsWhole c

-- of a crash while a record is added: the payloads from before it, with the new one or without, behind the first frame
pub record LeavesRecords (file payload c : List ℕ) : Type 0 where
  pub records : IsBeforeOrAfter file payload c
  pub head : KeepsHead file c

-- It opens to whatever the file opens to, also by its first frame. Where the file is none that is opened, since it begins with no whole frame or is damaged
-- further on, it is the file itself.
pub record OpensAlike (file c : List ℕ) : Type 0 where
  pub head : BeginsWhole file → BeginsWhole c
  pub same : (payloads : List (List ℕ)) → Opens file payloads → Opens c payloads
  pub untouched : ((payloads : List (List ℕ)) → BeginsWhole file → Opens file payloads → ⊥) → c ≡ file

abbrev pub payloads_of : Opened → List (List ℕ)
payloads_of opened = at_places opened.bytes.items opened.places.items
