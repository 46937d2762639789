-- What a key is, and what a revision changed, as words.
use Rattle.std.specs.Prelude.{ℕ, ◌+◌, suc, nat_eq, nat_lt, nat_le, if◌then◌else◌, List, [], ◌∷◌, ◌++◌, Option, Some, None, codes, decimal}
use Rattle.stm_history.specs.declared.key_state.KeyState.{KeyState}
use Rattle.stm_history.specs.History.{History, now}
use Rattle.stm_keys.specs.declared.event.Event.{Event}
use Rattle.stm_keys.specs.declared.event.Event.TheVariants.{Put, Delete}
use Rattle.stm_keys.specs.Events.{events_of}
use Rattle.stm_reasons.specs.Causes.{state_by}
use Rattle.stm_formats.specs.declared.format_changes.TheConstants.{MOST_CHANGES}
use Rattle.stm_formats.specs.declared.format_keys.Cuts.{Cuts}
use Rattle.stm_formats.specs.FormatShown.{shown}
use Rattle.stm_formats.specs.FormatKeys.{key_words}
use Rattle.stm_formats.specs.FormatPieces.{joined}

-- ---- a key

-- its value, and the revision of its last change
abbrev pub state_words : ℕ → Option KeyState → List ℕ
state_words most None = codes "absent"
state_words most (Some state) = joined (codes "\"" ∷ shown most state.value ∷ codes "\" @" ∷ decimal state.mod_rev ∷ [])

-- A key that was seen as of a revision, at this modification revision: 0 where it was absent. Where that revision is no longer kept, its value is not known.
abbrev pub known_words : ℕ → History → List ℕ → ℕ → ℕ → List ℕ
known_words most h key mod_rev revision =
    if nat_eq mod_rev 0 then codes "absent"
    else (if nat_lt revision h.opening.number then joined (codes "@" ∷ decimal mod_rev ∷ []) else state_words most (state_by h key revision))

-- the lease that a key is on, where it is on one
abbrev pub lease_words : ℕ → List ℕ
lease_words lease = if nat_eq lease 0 then [] else joined (codes " on lease " ∷ decimal lease ∷ [])

-- ---- what a revision changed

abbrev pub change_words : Cuts → Event → List ℕ
change_words cuts (Put key state) = joined (key_words cuts key ∷ codes " = \"" ∷ shown cuts.value state.value ∷ codes "\"" ∷ lease_words state.lease ∷ [])
change_words cuts (Delete key revision) = joined (key_words cuts key ∷ codes " deleted" ∷ [])

-- what stands before a change after that many
abbrev pub between : ℕ → List ℕ
between count = if nat_eq count 0 then codes "  " else codes ", "

-- a change after that many: of more than are shown only that there are more
abbrev pub counted_change : Cuts → ℕ → Event → List ℕ
counted_change cuts count event =
    if nat_lt count MOST_CHANGES then joined (between count ∷ change_words cuts event ∷ [])
    else (if nat_eq count MOST_CHANGES then codes ", .." else [])

-- the changes after that many
abbrev pub changes_after : Cuts → ℕ → List Event → List ℕ
changes_after cuts count [] = []
changes_after cuts count (event ∷ events) = counted_change cuts count event ++ changes_after cuts (suc count) events

-- those of a revision that has come: that it was compacted, where it was
abbrev pub revision_words : Cuts → History → ℕ → List ℕ
revision_words cuts h revision =
    if nat_lt (now h) revision then [] else (if nat_le revision h.opening.number then codes "  (compacted)" else changes_after cuts 0 (events_of h revision))

-- Those of the revisions above one and up to another: of the first two. More than one an event makes only where it ends several leases.
abbrev pub changed_since : Cuts → History → ℕ → ℕ → List ℕ
changed_since cuts h before after =
    if nat_le after before then []
    else (if nat_eq after (before + 1) then revision_words cuts h (before + 1)
    else joined (revision_words cuts h (before + 1) ∷ revision_words cuts h (before + 2) ∷ (if nat_eq after (before + 2) then [] else codes "  ..") ∷ []))
