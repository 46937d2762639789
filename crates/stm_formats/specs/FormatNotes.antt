-- What comes after the rows: the keys that are present, the revision, and the runners that are unfinished.
use Rattle.std.specs.Prelude.{ℕ, ◌-◌, suc, nat_eq, nat_le, if◌then◌else◌, List, [], ◌∷◌, ◌++◌, length, Bool, true, false, Option, Some, None, Result, Ok, Err, codes, decimal, slice_set}
use Rattle.stm_history.specs.declared.key_state.KeyState.{KeyState}
use Rattle.stm_history.specs.History.{History, now, key_now}
use Rattle.stm_txn.specs.PresentKeys.{keys_present}
use Rattle.stm_events.specs.declared.reply.Reply.{Reply}
use Rattle.stm_events.specs.declared.reply.Reply.TheVariants.{Started, Committed, GaveUp, Aborted, Faulted, Ended}
use Rattle.stm_events.specs.declared.refusal.Denied.{Denied}
use Rattle.stm_world.specs.World.{World}
use Rattle.stm_reasons.specs.Counters.{counter_after}
use Rattle.stm_formats.specs.declared.format_notes.TheConstants.{MOST_KEY_NOTES}
use Rattle.stm_formats.specs.declared.format_label.RunnerLabel.{RunnerLabel}
use Rattle.stm_formats.specs.FormatShown.{plain, shown}
use Rattle.stm_formats.specs.FormatPieces.{joined}
use Rattle.stm_formats.specs.FormatChanges.{lease_words}
use Rattle.stm_formats.specs.FormatLabels.{runner_words}

-- ---- the keys that are present

-- a key with its value, the revision of its last change, and the lease that it is on
abbrev pub key_note : ℕ → List ℕ → KeyState → List ℕ
key_note most key state =
    joined (codes "key " ∷ plain key ∷ codes " = \"" ∷ shown most state.value ∷ codes "\" @" ∷ decimal state.mod_rev ∷ lease_words state.lease ∷ [])

-- where it changed above a revision
abbrev pub notes_of_key : ℕ → ℕ → List ℕ → Option KeyState → List (List ℕ)
notes_of_key most above key None = []
notes_of_key most above key (Some state) = if nat_le state.mod_rev above then [] else key_note most key state ∷ []

abbrev pub key_notes : ℕ → ℕ → History → List (List ℕ) → List (List ℕ)
key_notes most above h [] = []
key_notes most above h (key ∷ keys) = notes_of_key most above key (key_now h key) ++ key_notes most above h keys

abbrev pub is_start : Result Reply Denied → Bool
is_start (Ok (Started runner)) = true
is_start (Ok other) = false
is_start (Err denied) = false

-- the revision at which the first runner was started; where none was, that before the first event
abbrev pub set_up : ℕ → ℕ → List (Result Reply Denied) → ℕ
set_up since counter [] = since
set_up since counter (reply ∷ replies) = if is_start reply then counter else set_up since (counter_after counter reply) replies

-- Above which revision that many keys have to have changed, to be noted: few are noted whenever they did.
abbrev pub noted_above : ℕ → ℕ → List (Result Reply Denied) → ℕ
noted_above count since replies = if nat_le count MOST_KEY_NOTES then 0 else set_up since since replies

-- how many keys are left out
abbrev pub left_out_note : ℕ → ℕ → List ℕ
left_out_note above count =
    joined (codes "keys left out, unchanged since @" ∷ decimal above ∷ codes ": " ∷ decimal count ∷ codes " (script --format lines has all)" ∷ [])

abbrev pub left_out_notes : ℕ → ℕ → List (List ℕ)
left_out_notes above count = if nat_eq count 0 then [] else left_out_note above count ∷ []

abbrev pub noted_keys_above : ℕ → ℕ → History → List (List ℕ) → List (List ℕ)
noted_keys_above most above h keys = key_notes most above h keys ++ left_out_notes above (length keys - length (key_notes most above h keys))

-- of keys that are present, where the store was at a revision before these replies
unfoldable pub noted_keys : ℕ → ℕ → List (Result Reply Denied) → History → List (List ℕ) → List (List ℕ)
noted_keys most since replies h keys = noted_keys_above most (noted_above (length keys) since replies) h keys

-- ---- the runners that are unfinished

-- for each runner whether its run has ended, runner 1 first
abbrev pub ended_by : List Bool → Reply → List Bool
ended_by ended (Started runner) = ended ++ false ∷ []
ended_by ended (Committed runner revision attempts output trace answers) = slice_set ended (runner - 1) true
ended_by ended (GaveUp runner attempts key seen now) = slice_set ended (runner - 1) true
ended_by ended (Aborted runner text) = slice_set ended (runner - 1) true
ended_by ended (Faulted runner fault) = slice_set ended (runner - 1) true
ended_by ended (Ended runner cause) = slice_set ended (runner - 1) true
ended_by ended other = ended

abbrev pub ended_after : List Bool → List (Result Reply Denied) → List Bool
ended_after ended [] = ended
ended_after ended (Ok reply ∷ replies) = ended_after (ended_by ended reply) replies
ended_after ended (Err denied ∷ replies) = ended_after ended replies

abbrev pub unfinished_note : List RunnerLabel → ℕ → List ℕ
unfinished_note labels runner = joined (codes "unfinished: " ∷ runner_words labels runner ∷ [])

-- a note for each runner from this one on whose run has not ended
abbrev pub unfinished_notes : List RunnerLabel → ℕ → List Bool → List (List ℕ)
unfinished_notes labels runner [] = []
unfinished_notes labels runner (true ∷ ended) = unfinished_notes labels (suc runner) ended
unfinished_notes labels runner (false ∷ ended) = unfinished_note labels runner ∷ unfinished_notes labels (suc runner) ended

-- ---- the whole

-- the store's revision, and the number of entries
abbrev pub end_note : ℕ → ℕ → List ℕ
end_note revision entries = joined (codes "revision " ∷ decimal revision ∷ codes ", entries " ∷ decimal entries ∷ [])

abbrev pub notes_of : ℕ → List RunnerLabel → World → ℕ → List (Result Reply Denied) → List (List ℕ)
notes_of most labels w since replies =
    noted_keys most since replies w.standing.history (keys_present w.standing.history)
    ++ end_note (now w.standing.history) (length w.entries) ∷ unfinished_notes labels 1 (ended_after [] replies)
