-- Adding lines one after the other, as a loop does.
use Rattle.std.proofs.Common.{◌≡◌, ℕ, ◌+◌, ◌<◌, ◌≤◌, List, [], ◌∷◌, ◌++◌, length, map, drop, get_or, Option, Some, refl, sym, ap, ◌∙◌}
use Rattle.std.proofs.Common.{String, string_bytes, append_assoc, append-nil}
use Rattle.std.proofs.lemmas.List.{drop_all}
use Rattle.stm_history.specs.declared.key_state.KeyState.{KeyState}
use Rattle.stm_history.specs.History.{History, key_now}
use Rattle.stm_events.specs.declared.line.ReportLine.TheVariants.{Key}
use Rattle.stm_events.specs.declared.line.ReportLine.{ReportLine}
use Rattle.stm_report_lines.specs.LineData.{line_data}
use Rattle.stm_check.specs.StoreLines.{key_lines_of, key_lines}
use Rattle.stm_report_lines.specs.Text.{line_text, text_of}
use Rattle.stm_report.specs.declared.line_form.LineForm.{LineForm}
use Rattle.stm_report.specs.declared.line_form.LineForm.TheVariants.{Array}
use Rattle.stm_report.specs.Forms.{formed, formed_text}
use Rattle.stm_formats.proofs.Joining.{left_at}

-- arrays are the lines of the report itself
pub array_text : (ls : List ReportLine) → formed_text Array ls ≡ text_of ls
array_text [] = refl
array_text (l ∷ ls) = ap (λ (t : List ℕ). line_text (line_data l) ++ t) (array_text ls)

module _ (form : LineForm) where
  formed_text-append : (ks ls : List ReportLine) → formed_text form (ks ++ ls) ≡ formed_text form ks ++ formed_text form ls
  formed_text-append [] ls = refl
  formed_text-append (k ∷ ks) ls = ap (λ (t : List ℕ). formed form k ++ t) (formed_text-append ks ls)
      ∙ sym (append_assoc (formed form k) (formed_text form ks) (formed_text form ls))

  -- the lines of events, of keys, of leases and of the end are those of the report
  pub whole_text : (events keys leases : List ReportLine) (end : ReportLine) →
      ((formed_text form events ++ formed_text form keys) ++ formed_text form leases) ++ formed form end
      ≡ formed_text form (events ++ ((keys ++ leases) ++ end ∷ []))
  whole_text events keys leases end =
      let last : List ℕ = formed form end in
      sym (
      formed_text-append events ((keys ++ leases) ++ end ∷ [])
      ∙ ap (λ (t : List ℕ). formed_text form events ++ t) (formed_text-append (keys ++ leases) (end ∷ []))
      ∙ ap (λ (t : List ℕ). formed_text form events ++ (t ++ formed_text form (end ∷ []))) (formed_text-append keys leases)
      ∙ ap (λ (t : List ℕ). formed_text form events ++ ((formed_text form keys ++ formed_text form leases) ++ t)) (append-nil last)
      ∙ sym (append_assoc (formed_text form events) (formed_text form keys ++ formed_text form leases) last)
      ∙ ap (λ (t : List ℕ). t ++ last) (sym (append_assoc (formed_text form events) (formed_text form keys) (formed_text form leases)))
      )

  -- the line of a key that is present
  pub one_key : (h : History) (key : List ℕ) (state : KeyState) → Some state ≡ key_now h key
      → formed_text form (key_lines_of key (key_now h key)) ≡ formed form (Key key state)
  one_key h key state present =
      ap (λ (kv : Option KeyState). formed_text form (key_lines_of key kv)) (sym present) ∙ append-nil (formed form (Key key state))

module _ {A : Type 0} (form : LineForm) where
  -- the line of one more key
  pub next_key : (text total : List ℕ) (h : History) (keys : List (String A)) (i : ℕ) (key : String A) → i < length keys → key ≡ get_or keys i key
      → text ++ formed_text form (key_lines h (map string_bytes (drop i keys))) ≡ total
      → (text ++ formed_text form (key_lines_of (string_bytes key) (key_now h (string_bytes key)))) ++ formed_text form (key_lines h (map string_bytes (drop (i + 1) keys)))
      ≡ total
  next_key text total h keys i key within is so_far =
      let line : List ReportLine = key_lines_of (string_bytes key) (key_now h (string_bytes key)) in
      let rest : List ReportLine = key_lines h (map string_bytes (drop (i + 1) keys)) in
      append_assoc text (formed_text form line) (formed_text form rest)
      ∙ ap (λ (t : List ℕ). text ++ t) (sym (formed_text-append form line rest))
      ∙ ap (λ (ks : List (String A)). text ++ formed_text form (key_lines h (map string_bytes ks))) (sym (left_at keys i key within is))
      ∙ so_far

  -- once no key is left
  pub all_keys : (before text : List ℕ) (h : History) (keys : List (String A)) (i : ℕ) → length keys ≤ i
      → text ++ formed_text form (key_lines h (map string_bytes (drop i keys))) ≡ before ++ formed_text form (key_lines h (map string_bytes keys))
      → text ≡ before ++ formed_text form (key_lines h (map string_bytes keys))
  all_keys before text h keys i end so_far =
      sym (append-nil text)
      ∙ ap (λ (ks : List (String A)). text ++ formed_text form (key_lines h (map string_bytes ks))) (sym (drop_all i keys end))
      ∙ so_far
