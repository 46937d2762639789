-- Cutting bytes at their first line feed, and the parts that all line feeds cut them into.
use Rattle.std.proofs.Common.{◌≡◌, ℕ, ◌+◌, ◌<◌, List, [], ◌∷◌, length, take, drop, get_or, Bool, true, false, refl, ap, ◌∙◌, arith}
use Rattle.std.proofs.lemmas.List.{get_or_default}
use Rattle.std.proofs.lemmas.List.Splits.{slice_split-cons_yes, slice_split-cons_no, slice_split_none, slice_split_first}
use Rattle.std.proofs.lemmas.List.Sums.{position_or_len_is}
use Rattle.std.specs.List.{onto_first}
use Rattle.std.proofs.lemmas.Bool.Decides.{nat_tests}
use Rattle.memchr.specs.Find.{NoneBefore, Nowhere, Passes, is_byte}
use Rattle.stm_report_lines.specs.Bytes.{is_line_feed, parts_of}

-- ---- there is a first part

abbrev pub HasPart : List (List ℕ) → Type 0
HasPart parts = (p : List ℕ) × (ps : List (List ℕ)) × (parts ≡ p ∷ ps)

start_by : (b : ℕ) (bs : List ℕ) (is : Bool) → is_line_feed b ≡ is → HasPart (parts_of bs) → HasPart (parts_of (b ∷ bs))
start_by b bs true e q = ([], parts_of bs, slice_split-cons_yes is_line_feed b bs e)
start_by b bs false e (p, ps, is) = (b ∷ p, ps, slice_split-cons_no is_line_feed b bs e ∙ ap (onto_first b) is)

pub parts_start : (bs : List ℕ) → HasPart (parts_of bs)
parts_start [] = ([], [], refl)
parts_start (b ∷ bs) = start_by b bs (is_line_feed b) refl (parts_start bs)

-- ---- the first line feed

other_at : (bs : List ℕ) (k : ℕ) (d : ℕ) → k < length bs → (Passes (is_byte 10) bs k → ⊥) → is_line_feed (get_or bs k d) ≡ false
other_at bs k d within other = grind (arith, nat_tests, get_or_default)

-- there is none
pub no_feed : (bs : List ℕ) → Nowhere (Passes (is_byte 10) bs) 0 (length bs) → parts_of bs ≡ bs ∷ []
no_feed bs none = slice_split_none is_line_feed bs (λ k d within. other_at bs k d within (none k (omega arith) within))

-- it stands there
pub first_feed : (bs : List ℕ) (k : ℕ) → NoneBefore (Passes (is_byte 10) bs) 0 (length bs) k → Passes (is_byte 10) bs k
    → parts_of bs ≡ take k bs ∷ parts_of (drop (k + 1) bs)
first_feed bs k before here = grind (arith, nat_tests, position_or_len_is, other_at, slice_split_first)
