-- A file of one record.
use Rattle.std.proofs.Common.{◌≡◌, ◌⊎◌, inl, inr, ℕ, List, [], ◌∷◌, refl, sym, ◌∙◌}
use Rattle.std.specs.Prelude.{Option, None, Some, option_and_then}
use Rattle.stm_world.specs.World.{World}
use Rattle.stm_frames.specs.Frame.{frame, log}
use Rattle.stm_frames.proofs.Frames.{log-push}
use Rattle.stm_frames.proofs.Unique.{opens_log}
use Rattle.stm_records.proofs.Heads.{log_head}
use Rattle.stm_lasting.specs.Kept.{led, world_in, IsKept, HasRecords, OpensToEither}

one_record : (file text : List ℕ) → file ≡ frame 0 text → file ≡ log 0 (text ∷ [])
one_record file text is = is ∙ sym (log-push [] text 0 refl)

-- it leads to the world of its record
pub kept_alone : (file text : List ℕ) (world : World) → file ≡ frame 0 text → world_in (text ∷ []) ≡ Some world → IsKept file world
kept_alone file text world is leads = record { records = text ∷ []; whole = one_record file text is; leads = leads }

-- and has one
pub one_kept : (file text : List ℕ) → file ≡ frame 0 text → HasRecords file 1
one_kept file text is = record { records = text ∷ []; whole = one_record file text is; number = refl }

-- the file from before, or the one of this record
pub opens_either : (file text c : List ℕ) (before after : World) → IsKept file before → world_in (text ∷ []) ≡ Some after → (c ≡ file) ⊎ (c ≡ frame 0 text)
    → OpensToEither before after c
opens_either file text c before after kept leads (inl old) =
    inl (record { head = log_head c kept.records (old ∙ kept.whole); records = kept.records; opens = opens_log c kept.records (old ∙ kept.whole); leads = kept.leads })
opens_either file text c before after kept leads (inr new) =
    inr (record {
      head = log_head c (text ∷ []) (one_record c text new);
      records = text ∷ [];
      opens = opens_log c (text ∷ []) (one_record c text new);
      leads = leads;
    })

-- no further records lead on to the same world
pub nothing_more : (o begun : Option World) → o ≡ begun → o ≡ option_and_then (led []) begun
nothing_more o None is = is
nothing_more o (Some w) is = is
