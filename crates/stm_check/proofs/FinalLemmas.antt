-- The lines of the end.
use Rattle.std.proofs.Common.{◌≡◌, ℕ, List, [], ◌∷◌, ◌++◌, cond, map, filter, Option, Some, None, is_some, refl, sym, ◌∙◌, ap}
use Rattle.std.proofs.Common.{String, string_bytes, ◌+◌, ◌<◌, ◌≤◌, length, drop, get_or, append-nil, append_assoc}
use Rattle.std.proofs.lemmas.List.{drop_all}
use Rattle.stm_history.specs.declared.key_state.KeyState.{KeyState}
use Rattle.stm_history.specs.History.{History, key_now}
use Rattle.stm_txn.specs.PresentKeys.{keys_present}
use Rattle.stm_txn.specs.LeaseKeys.{keys_named}
use Rattle.stm_events.specs.declared.line.ReportLine.{ReportLine}
use Rattle.stm_check.proofs.Fronts.{left_at}
use Rattle.stm_check.specs.StoreLines.{key_lines_of, key_lines}

-- ---- the keys that are not present have no line

one_present : (h : History) (key : List ℕ) (left keys : List (List ℕ)) (o : Option KeyState) → key_now h key ≡ o → key_lines h left ≡ key_lines h keys →
    key_lines h (cond (is_some o) (key ∷ left) left) ≡ key_lines_of key o ++ key_lines h keys
one_present h key left keys None is rest = rest
one_present h key left keys (Some state) is rest =
    ap (λ (o : Option KeyState). key_lines_of key o ++ key_lines h left) is
    ∙ ap (λ (lines : List ReportLine). key_lines_of key (Some state) ++ lines) rest

pub present_lines : (h : History) (keys : List (List ℕ)) → key_lines h (filter (λ key. is_some (key_now h key)) keys) ≡ key_lines h keys
present_lines h [] = refl
present_lines h (key ∷ keys) =
    one_present h key (filter (λ k. is_some (key_now h k)) keys) keys (key_now h key) refl (present_lines h keys)

-- ---- lines, key after key

module _ {A : Type 0} where
  -- the line of one more key
  pub one_key_line : (h : History) (texts : List (String A)) (i : ℕ) (t : String A) (lines next total : List ReportLine) → i < length texts →
      t ≡ get_or texts i t → next ≡ lines ++ key_lines_of (string_bytes t) (key_now h (string_bytes t)) →
      lines ++ key_lines h (map string_bytes (drop i texts)) ≡ total → next ++ key_lines h (map string_bytes (drop (i + 1) texts)) ≡ total
  one_key_line h texts i t lines next total within is added so_far =
      let key : List ℕ = string_bytes t in
      let rest : List ReportLine = key_lines h (map string_bytes (drop (i + 1) texts)) in
      ap (λ (ls : List ReportLine). ls ++ rest) added
      ∙ append_assoc lines (key_lines_of key (key_now h key)) rest
      ∙ ap (λ (ts : List (String A)). lines ++ key_lines h (map string_bytes ts)) (sym (left_at texts i t within is))
      ∙ so_far

  -- once no key is left, the lines are those of the present keys
  pub all_key_lines : (h : History) (texts : List (String A)) (i : ℕ) (before lines : List ReportLine) → length texts ≤ i →
      map string_bytes texts ≡ keys_present h →
      lines ++ key_lines h (map string_bytes (drop i texts)) ≡ before ++ key_lines h (map string_bytes texts) →
      lines ≡ before ++ key_lines h (keys_named h)
  all_key_lines h texts i before lines end are so_far =
      sym (append-nil lines)
      ∙ ap (λ (ts : List (String A)). lines ++ key_lines h (map string_bytes ts)) (sym (drop_all i texts end))
      ∙ so_far
      ∙ ap (λ (ks : List (List ℕ)). before ++ key_lines h ks) are
      ∙ ap (λ (ls : List ReportLine). before ++ ls) (present_lines h (keys_named h))
