-- Conflicts: what a failed compare reports, and why it failed.
--
-- The documentation of the Go package `clientv3/concurrency`, "STM": a commit fails only where a key that was read, or at
-- serializable snapshot one that was written, has been changed since.
use Rattle.std.specs.Prelude.{◌≡◌, ℕ, Bool, true, is_some, nat_lt, ◌&&◌, ◌||◌, List, [], ◌∷◌, ◌++◌, map, Option, None, Some, slice_get}
use Rattle.stm_history.specs.declared.change.Change.{Change}
use Rattle.stm_history.specs.declared.key_state.ReadAnswer.{ReadAnswer}
use Rattle.stm_history.specs.Opening.{Opening, opened_state}
use Rattle.stm_history.specs.History.{History, key_now, mod_of, number_of_last, change_of, key_of}
use Rattle.stm_outcome.specs.declared.answer.FailedCompare.{FailedCompare}
use Rattle.stm_compile.specs.CommitTxn.{first_carried}

-- One of these revisions above a number changes the key, or one above it that was dropped before them has left what the key is at the
-- opening.
abbrev pub changes_above : Opening → ℕ → List ℕ → List (List Change) → Bool
changes_above opening r key [] = nat_lt r (mod_of (opened_state opening key))
changes_above opening r key (changes ∷ older) =
    (nat_lt r (number_of_last opening (changes ∷ older)) && is_some (change_of key changes)) || changes_above opening r key older

-- the history changes the key above a revision
abbrev pub IsChangedAbove : History → ℕ → List ℕ → Type 0
IsChangedAbove h r key = changes_above h.opening r key h.revisions ≡ true

-- What a compare is about: its key; what was seen of it, which is the modification revision that was read, or `first` for a
-- written key; and the revision that it was seen at.
pub record Seen : Type 0 where
  pub key : List ℕ
  pub mod_rev : ℕ
  pub at : ℕ

-- what a failed compare is about; the place that is reported is that of a compare, so there always is one
abbrev pub seen_in : Option Seen → Seen
seen_in None = record { key = []; mod_rev = 0; at = 0 }
seen_in (Some seen) = seen

abbrev pub seen_of_read : ReadAnswer → Seen
seen_of_read a = record { key = a.key; mod_rev = mod_of a.kv; at = a.of_rev }

abbrev pub seen_of_write : ℕ → Change → Seen
seen_of_write first w = record { key = key_of w; mod_rev = first; at = first }

-- What each compare is about, in the order of the compares. Only serializable snapshot compares written keys: at the other levels no
-- compare stands after those of the keys read.
abbrev pub seen_by : List ReadAnswer → List Change → List Seen
seen_by reads writes = map seen_of_read reads ++ map (seen_of_write (first_carried reads)) writes

-- A failed compare is a conflict: it is about this key; the key's modification revision is reported; and the history changes the
-- key above the revision that it was seen at.
pub record IsConflict (h : History) (reads : List ReadAnswer) (writes : List Change) (failed : FailedCompare) : Type 0 where
  pub seen : Seen
  pub about : slice_get (seen_by reads writes) failed.index ≡ Some seen
  pub reported : failed.mod_rev ≡ mod_of (key_now h seen.key)
  pub changed : IsChangedAbove h seen.at seen.key
