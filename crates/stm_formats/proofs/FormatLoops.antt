-- Adding notes one after the other, as a loop does.
use Rattle.std.proofs.Common.{◌≡◌, ℕ, ◌+◌, ◌<◌, ◌≤◌, List, ◌++◌, length, map, drop, get_or, sym, ap, ◌∙◌}
use Rattle.std.proofs.Common.{String, string_bytes, append_assoc, append-nil}
use Rattle.std.proofs.lemmas.List.{drop_all}
use Rattle.stm_history.specs.History.{History, key_now}
use Rattle.stm_formats.specs.FormatNotes.{notes_of_key, key_notes}
use Rattle.stm_formats.proofs.Joining.{left_at}

module _ {A : Type 0} (most above : ℕ) where
  -- ---- notes of keys

  pub next_note : (notes total : List (List ℕ)) (h : History) (keys : List (String A)) (i : ℕ) (key : String A) → i < length keys → key ≡ get_or keys i key
      → notes ++ key_notes most above h (map string_bytes (drop i keys)) ≡ total
      → (notes ++ notes_of_key most above (string_bytes key) (key_now h (string_bytes key))) ++ key_notes most above h (map string_bytes (drop (i + 1) keys)) ≡ total
  next_note notes total h keys i key within is so_far =
      append_assoc notes (notes_of_key most above (string_bytes key) (key_now h (string_bytes key))) (key_notes most above h (map string_bytes (drop (i + 1) keys)))
      ∙ ap (λ (ks : List (String A)). notes ++ key_notes most above h (map string_bytes ks)) (sym (left_at keys i key within is))
      ∙ so_far

  pub all_notes : (before notes : List (List ℕ)) (h : History) (keys : List (String A)) (i : ℕ) → length keys ≤ i
      → notes ++ key_notes most above h (map string_bytes (drop i keys)) ≡ before ++ key_notes most above h (map string_bytes keys)
      → notes ≡ before ++ key_notes most above h (map string_bytes keys)
  all_notes before notes h keys i end so_far =
      sym (append-nil notes) ∙ ap (λ (ks : List (String A)). notes ++ key_notes most above h (map string_bytes ks)) (sym (drop_all i keys end)) ∙ so_far
