-- Adding the lines of values one after the other.
use Rattle.std.proofs.Common.{◌≡◌, ℕ, zero, suc, ◌+◌, ◌<◌, ◌≤◌, List, [], ◌∷◌, ◌++◌, length, drop, slice_get}
use Rattle.std.proofs.Common.{Some, refl, sym, ap, ◌∙◌, append_assoc, append-nil, arith}
use Rattle.std.proofs.lemmas.List.{drop_all}
use Rattle.stm_steps.specs.declared.state.StateEntry.{StateEntry}
use Rattle.stm_meaning.specs.States as states
use Rattle.stm_report_lines.specs.Text.{line_text, lines_text}
use Rattle.serde_json.specs.Data.{Data}
use Rattle.stm_job_texts.specs.Lines.{value_line, value_lines}
use Rattle.stm_job_texts.specs.Outcomes.{pair_data, pairs}

next_entry : (es : List StateEntry) (i : ℕ) (e : StateEntry) → slice_get es i ≡ Some e → drop i es ≡ e ∷ drop (suc i) es
next_entry [] i e h = absurd (cc)
next_entry (x ∷ es) zero e h = cc
next_entry (x ∷ es) (suc i) e h = next_entry es i e h

-- the line of the next value
pub next_value : (text total : List ℕ) (es : List StateEntry) (i : ℕ) (e : StateEntry) → slice_get es i ≡ Some e →
    text ++ lines_text (value_lines (drop i es)) ≡ total →
    (text ++ line_text (value_line e.key e.value)) ++ lines_text (value_lines (drop (i + 1) es)) ≡ total
next_value text total es i e at so_far =
    let k : i + 1 ≡ suc i = omega arith in
    let line : List ℕ = line_text (value_line e.key e.value) in
    let one : text ++ lines_text (value_lines (drop i es)) ≡ (text ++ line) ++ lines_text (value_lines (drop (i + 1) es)) =
    ap (λ (fs : List StateEntry). text ++ lines_text (value_lines fs)) (next_entry es i e at)
    ∙ sym (append_assoc text line (lines_text (value_lines (drop (suc i) es)))) ∙ rw k refl in
    sym one ∙ so_far

-- once no value is left
pub all_values : (before text : List ℕ) (es : List StateEntry) (i : ℕ) → length es ≤ i
    → text ++ lines_text (value_lines (drop i es)) ≡ before ++ lines_text (value_lines es) → text ≡ before ++ lines_text (value_lines es)
all_values before text es i end so_far =
    sym (append-nil text) ∙ ap (λ (fs : List StateEntry). text ++ lines_text (value_lines fs)) (sym (drop_all i es end)) ∙ so_far

-- the same of the pairs of an outcome
pub next_pair : (so_far total : List Data) (es : List StateEntry) (i : ℕ) (e : StateEntry) → slice_get es i ≡ Some e →
    so_far ++ pairs (drop i es) ≡ total → (so_far ++ pair_data e.key e.value ∷ []) ++ pairs (drop (i + 1) es) ≡ total
next_pair so_far total es i e at reported =
    let k : i + 1 ≡ suc i = omega arith in
    let one : so_far ++ pairs (drop i es) ≡ (so_far ++ pair_data e.key e.value ∷ []) ++ pairs (drop (i + 1) es) =
    ap (λ (fs : List StateEntry). so_far ++ pairs fs) (next_entry es i e at)
    ∙ sym (append_assoc so_far (pair_data e.key e.value ∷ []) (pairs (drop (suc i) es))) ∙ rw k refl in
    sym one ∙ reported

pub all_pairs : (so_far : List Data) (es : List StateEntry) (i : ℕ) → length es ≤ i → so_far ++ pairs (drop i es) ≡ pairs es → so_far ≡ pairs es
all_pairs so_far es i end reported =
    sym (append-nil so_far) ∙ ap (λ (fs : List StateEntry). so_far ++ pairs fs) (sym (drop_all i es end)) ∙ reported

-- a state of which an entry was looked at ascends, and so does one without entries
pub ascends : (es : List StateEntry) (i : ℕ) → length es ≤ i → (0 < i → states.IsAscending es) → states.IsAscending es
ascends [] i all known = tt
ascends (e ∷ es) i all known = known (omega (arith, all))

-- lines after lines
lines_append : (xs ys : List Data) → lines_text (xs ++ ys) ≡ lines_text xs ++ lines_text ys
lines_append [] ys = refl
lines_append (x ∷ xs) ys =
    ap (λ (t : List ℕ). line_text x ++ t) (lines_append xs ys) ∙ sym (append_assoc (line_text x) (lines_text xs) (lines_text ys))

-- a line, and lines after lines
pub three_parts : (text : List ℕ) (first : Data) (xs ys : List Data) →
    ((text ++ line_text first) ++ lines_text xs) ++ lines_text ys ≡ text ++ lines_text (first ∷ xs ++ ys)
three_parts text first xs ys =
    append_assoc (text ++ line_text first) (lines_text xs) (lines_text ys)
    ∙ append_assoc text (line_text first) (lines_text xs ++ lines_text ys)
    ∙ ap (λ (t : List ℕ). text ++ (line_text first ++ t)) (sym (lines_append xs ys))
