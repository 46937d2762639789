-- How an audit finds entries that two ends name: it marks each entry that an end names, from the first end on. And at which revision it looks at
-- reads.
use Rattle.std.specs.Prelude.{◌≡◌, ℕ, zero, suc, ◌<◌, ◌||◌, Bool, false, List, [], ◌∷◌, Option, None, Some, get_or, option_and_then, slice_get}
use Rattle.stm_history.specs.declared.key_state.ReadAnswer.{ReadAnswer}
use Rattle.stm_job.specs.declared.job_end.JobEnd.{JobEnd}
use Rattle.stm_workers.specs.Ends.{entry_named, names_entry, IsNew}

-- each entry that an end names is among the first `entries`
abbrev pub NamesWithin : List JobEnd → ℕ → Type 0
NamesWithin ends entries = (place index : ℕ) → option_and_then entry_named (slice_get ends place) ≡ Some index → index < entries

-- the entry that the end at a place names, if it names one, is named by none before it
abbrev pub IsNewAt : List JobEnd → ℕ → Type 0
IsNewAt ends place = (index : ℕ) → option_and_then entry_named (slice_get ends place) ≡ Some index → IsNew ends place index

-- the entry, if there is one, is marked
abbrev pub is_marked : List Bool → Option ℕ → Bool
is_marked marks None = false
is_marked marks (Some index) = get_or marks index false

-- one of the first ends, this many of them, names the entry
abbrev pub is_named_before : ℕ → ℕ → List JobEnd → Bool
is_named_before index zero ends = false
is_named_before index (suc n) [] = false
is_named_before index (suc n) (end ∷ ends) = names_entry index end || is_named_before index n ends

-- the revision that reads are of: the one that the first of them shows, and where nothing was read this one
abbrev pub revision_of : ℕ → List ReadAnswer → ℕ
revision_of since [] = since
revision_of since (first ∷ reads) = first.of_rev
