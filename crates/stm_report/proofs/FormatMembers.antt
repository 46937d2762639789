-- Members of a line, one after the other.
use Rattle.std.proofs.Common.{◌≡◌, ℕ, zero, suc, ◌+◌, ◌<◌, List, [], ◌∷◌, map, ◌++◌, length, drop, get_or, false, refl, sym, ap, ◌∙◌, append_assoc, arith}
use Rattle.std.proofs.lemmas.Bool.{or_parts}
use Rattle.std.proofs.lemmas.List.{get_or-map}
use Rattle.serde_json.specs.declared.value.Value.{Value}
use Rattle.serde_json.specs.View.{view, items_view}
use Rattle.serde_json.specs.Written.{has_float, items_have_float}
use Rattle.stm_formats.proofs.Joining.{left_at}
use Rattle.stm_report.specs.FormatFields.{member_text, members_text}

-- the name at a place
module _ {A : Type 0} (name : A → List ℕ) where
  pub name_within : (xs : List A) (i : ℕ) (x : A) → i < length xs → x ≡ get_or xs i x → name x ≡ get_or (map name xs) i []
  name_within xs i x within is = ap name is ∙ sym (get_or-map name xs i x [] within)

  pub no_name : (xs : List A) (i : ℕ) → (i < length xs → ⊥) → [] ≡ get_or (map name xs) i []
  no_name [] i past = refl
  no_name (x ∷ xs) zero past = absurd (past (omega arith))
  no_name (x ∷ xs) (suc i) past = no_name xs i (λ within. past (omega (arith, within)))

module _ (values : List Value) (i : ℕ) (value : Value) (within : i < length values) (is : value ≡ get_or values i value) where
  left : drop i values ≡ value ∷ drop (i + 1) values
  left = left_at values i value within is

  parts : items_have_float (items_view (drop i values)) ≡ false → (has_float (view value) ≡ false) × (items_have_float (items_view (drop (i + 1) values)) ≡ false)
  parts none =
      or_parts (has_float (view value)) (items_have_float (items_view (drop (i + 1) values))) (ap (λ (vs : List Value). items_have_float (items_view vs)) (sym left) ∙ none)

  -- neither it nor one behind it has a float
  pub plain : items_have_float (items_view (drop i values)) ≡ false → has_float (view value) ≡ false
  plain none = (parts none).0

  pub plain_behind : items_have_float (items_view (drop i values)) ≡ false → items_have_float (items_view (drop (i + 1) values)) ≡ false
  plain_behind none = (parts none).1

  -- one more member
  pub next_member : (names : List (List ℕ)) (name text total : List ℕ) → name ≡ get_or names i [] → text ++ members_text names i (items_view (drop i values)) ≡ total
      → (text ++ member_text i name (view value)) ++ members_text names (i + 1) (items_view (drop (i + 1) values)) ≡ total
  next_member names name text total named so_far =
      let step : i + 1 ≡ suc i = omega arith in
      append_assoc text (member_text i name (view value)) (members_text names (i + 1) (items_view (drop (i + 1) values)))
      ∙ ap (λ (n : ℕ). text ++ (member_text i name (view value) ++ members_text names n (items_view (drop (i + 1) values)))) step
      ∙ ap (λ (it : List ℕ). text ++ (member_text i it (view value) ++ members_text names (suc i) (items_view (drop (i + 1) values)))) named
      ∙ ap (λ (vs : List Value). text ++ members_text names i (items_view vs)) (sym left)
      ∙ so_far
