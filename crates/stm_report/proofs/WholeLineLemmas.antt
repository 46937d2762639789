-- The first line of a text, and the first line in which two texts are not alike.
use Rattle.std.proofs.Common.{◌≡◌, ℕ, suc, ◌+◌, ◌<◌, List, [], ◌∷◌, ◌++◌, length, take, drop, get_or, Bool, true, false, not, cond, bytes_eq, Option, Some, None}
use Rattle.std.proofs.Common.{refl, sym, ap, ap₂, ◌∙◌, arith, add-one, true≢false}
use Rattle.std.proofs.Math.Seq.{drop-cons}
use Rattle.std.proofs.lemmas.Slice.Eq.{bytes_eq-Decides}
use Rattle.stm_report.specs.WholeLines.{is_line_feed, line_end, onto_line, lines_in, first_unlike}

-- ---- the first line, and what comes after it

abbrev Starts : List ℕ → Type 0
Starts [] = lines_in [] ≡ []
Starts (b ∷ bs) = lines_in (b ∷ bs) ≡ take (line_end (b ∷ bs)) (b ∷ bs) ∷ lines_in (drop (line_end (b ∷ bs)) (b ∷ bs))

start_by : (b : ℕ) (bs : List ℕ) (is : Bool) → Starts bs →
    cond is ((b ∷ []) ∷ lines_in bs) (onto_line b (lines_in bs))
    ≡ take (cond is 1 (suc (line_end bs))) (b ∷ bs) ∷ lines_in (drop (cond is 1 (suc (line_end bs))) (b ∷ bs))
start_by b bs true s = refl
start_by b [] false s = refl
start_by b (x ∷ bs) false s = ap (onto_line b) s

starts : (bs : List ℕ) → Starts bs
starts [] = refl
starts (b ∷ bs) = start_by b bs (is_line_feed b) (starts bs)

-- the lines are the whole text
abbrev joined : List (List ℕ) → List ℕ
joined [] = []
joined (l ∷ ls) = l ++ joined ls

joined_onto : (b : ℕ) (ls : List (List ℕ)) → joined (onto_line b ls) ≡ b ∷ joined ls
joined_onto b [] = refl
joined_onto b (l ∷ ls) = refl

joined_by : (b : ℕ) (bs : List ℕ) (is : Bool) → joined (lines_in bs) ≡ bs → joined (cond is ((b ∷ []) ∷ lines_in bs) (onto_line b (lines_in bs))) ≡ b ∷ bs
joined_by b bs true same = ap (λ (xs : List ℕ). b ∷ xs) same
joined_by b bs false same = joined_onto b (lines_in bs) ∙ ap (λ (xs : List ℕ). b ∷ xs) same

joined_lines : (bs : List ℕ) → joined (lines_in bs) ≡ bs
joined_lines [] = refl
joined_lines (b ∷ bs) = joined_by b bs (is_line_feed b) (joined_lines bs)

pub same_lines : (a b : List ℕ) → lines_in a ≡ lines_in b → a ≡ b
same_lines a b same = sym (joined_lines a) ∙ ap joined same ∙ joined_lines b

-- a line has a byte at least
pub line_counts : (bs : List ℕ) → 0 < length bs → 0 < line_end bs
line_counts [] some = absurd (omega (arith, some))
line_counts (b ∷ bs) some = by (is_line_feed b)
  where
    by : (is : Bool) → 0 < cond is 1 (suc (line_end bs))
    by true = omega arith
    by false = omega arith

-- ---- two texts, line by line

some_line : (is : Bool) (m b : ℕ) (bs : List ℕ) → bytes_eq (take (cond is 1 (suc m)) (b ∷ bs)) [] ≡ true → ⊥
some_line true m b bs h = true≢false (sym h)
some_line false m b bs h = true≢false (sym h)

-- two lines are alike: the texts go on after them
pub goes_on : (n : ℕ) (ls gs : List ℕ) → 0 < length ls → bytes_eq (take (line_end ls) ls) (take (line_end gs) gs) ≡ true
    → first_unlike n (lines_in ls) (lines_in gs) ≡ first_unlike (suc n) (lines_in (drop (line_end ls) ls)) (lines_in (drop (line_end gs) gs))
goes_on n [] gs some same = absurd (omega (arith, some))
goes_on n (l ∷ ls) [] some same = absurd (some_line (is_line_feed l) (line_end ls) l ls same)
goes_on n (l ∷ ls) (g ∷ gs) some same =
    let line : List ℕ = take (line_end (l ∷ ls)) (l ∷ ls) in
    let behind : List (List ℕ) = lines_in (drop (line_end (l ∷ ls)) (l ∷ ls)) in
    let given_after : List (List ℕ) = lines_in (drop (line_end (g ∷ gs)) (g ∷ gs)) in
    ap₂ (λ (xs ys : List (List ℕ)). first_unlike n xs ys) (starts (l ∷ ls)) (starts (g ∷ gs))
    ∙ ap (λ (b : Bool). cond b (first_unlike (suc n) behind given_after) (Some (n, line))) same

-- two lines are not
pub stops : (n : ℕ) (ls gs : List ℕ) → 0 < length ls → bytes_eq (take (line_end ls) ls) (take (line_end gs) gs) ≡ false
    → first_unlike n (lines_in ls) (lines_in gs) ≡ Some (n, take (line_end ls) ls)
stops n [] gs some differ = absurd (omega (arith, some))
stops n (l ∷ ls) [] some differ = ap (λ (xs : List (List ℕ)). first_unlike n xs []) (starts (l ∷ ls))
stops n (l ∷ ls) (g ∷ gs) some differ =
    let line : List ℕ = take (line_end (l ∷ ls)) (l ∷ ls) in
    let behind : List (List ℕ) = lines_in (drop (line_end (l ∷ ls)) (l ∷ ls)) in
    let given_after : List (List ℕ) = lines_in (drop (line_end (g ∷ gs)) (g ∷ gs)) in
    ap₂ (λ (xs ys : List (List ℕ)). first_unlike n xs ys) (starts (l ∷ ls)) (starts (g ∷ gs))
    ∙ ap (λ (b : Bool). cond b (first_unlike (suc n) behind given_after) (Some (n, line))) differ

not_true : (b d : Bool) → d ≡ not b → d ≡ true → b ≡ false
not_true false d tests is = refl
not_true true d tests is = absurd (true≢false (sym is ∙ tests))

not_false : (b d : Bool) → d ≡ not b → d ≡ false → b ≡ true
not_false true d tests is = refl
not_false false d tests is = absurd (true≢false (sym tests ∙ is))

module _ (n : ℕ) (ls gs line reported : List ℕ) (k m : ℕ) (differs : Bool) (total : Option (ℕ × List ℕ)) (some : 0 < length ls) (ends : k ≡ line_end ls)
    (reported_ends : m ≡ line_end gs) (line_is : line ≡ take k ls) (reported_is : reported ≡ take m gs) (tests : differs ≡ not (bytes_eq line reported))
    (so_far : first_unlike n (lines_in ls) (lines_in gs) ≡ total) where
  first_line : line ≡ take (line_end ls) ls
  first_line = line_is ∙ ap (λ (i : ℕ). take i ls) ends

  number_of_first : reported ≡ take (line_end gs) gs
  number_of_first = reported_is ∙ ap (λ (i : ℕ). take i gs) reported_ends

  -- the lines that were cut off are not alike
  pub stopped : differs ≡ true → Some (n, line) ≡ total
  stopped is =
      let differ : bytes_eq (take (line_end ls) ls) (take (line_end gs) gs) ≡ false =
      ap₂ (λ (x y : List ℕ). bytes_eq x y) (sym first_line) (sym number_of_first) ∙ not_true (bytes_eq line reported) differs tests is in
      ap (λ (l : List ℕ). Some (n, l)) first_line ∙ sym (stops n ls gs some differ) ∙ so_far

  -- they are
  pub went_on : (after reported_after : List ℕ) → after ≡ drop k ls → reported_after ≡ drop m gs → differs ≡ false
      → first_unlike (n + 1) (lines_in after) (lines_in reported_after) ≡ total
  went_on after reported_after after_is reported_after_is is =
      let same : bytes_eq (take (line_end ls) ls) (take (line_end gs) gs) ≡ true =
      ap₂ (λ (x y : List ℕ). bytes_eq x y) (sym first_line) (sym number_of_first) ∙ not_false (bytes_eq line reported) differs tests is in
      let step : n + 1 ≡ suc n = omega arith in
      ap (λ (i : ℕ). first_unlike i (lines_in after) (lines_in reported_after)) step
      ∙ ap₂ (λ (x y : List ℕ). first_unlike (suc n) (lines_in x) (lines_in y)) (after_is ∙ ap (λ (i : ℕ). drop i ls) ends)
      (reported_after_is ∙ ap (λ (i : ℕ). drop i gs) reported_ends)
      ∙ sym (goes_on n ls gs some same) ∙ so_far

-- the expected one has
pub one_ended : (n : ℕ) (ls gs : List ℕ) → length ls ≡ 0 → 0 < length gs → first_unlike n (lines_in ls) (lines_in gs) ≡ Some (n, ls)
one_ended n [] [] none more = absurd (omega (arith, more))
one_ended n [] (g ∷ gs) none more = ap (λ (ys : List (List ℕ)). first_unlike n [] ys) (starts (g ∷ gs))
one_ended n (l ∷ ls) gs none more = absurd (omega (arith, none))

-- ---- texts that are alike to the end are equal, and equal ones are alike

abbrev is_none : Option (ℕ × List ℕ) → Bool
is_none None = true
is_none (Some p) = false

some_none : (p : ℕ × List ℕ) → Some p ≡ None → ⊥
some_none p e = true≢false (sym (ap is_none e))

alike_by : (b : Bool) (n : ℕ) (l g : List ℕ) (ls gs : List (List ℕ)) → bytes_eq l g ≡ b
    → (first_unlike (suc n) ls gs ≡ None → ls ≡ gs) → cond b (first_unlike (suc n) ls gs) (Some (n, l)) ≡ None → l ∷ ls ≡ g ∷ gs
alike_by true n l g ls gs is rest none = ap₂ (λ (x : List ℕ) (xs : List (List ℕ)). x ∷ xs) ((bytes_eq-Decides l g).0 is) (rest none)
alike_by false n l g ls gs is rest none = absurd (some_none (n, l) none)

pub alike : (n : ℕ) (ls gs : List (List ℕ)) → first_unlike n ls gs ≡ None → ls ≡ gs
alike n [] [] none = refl
alike n (l ∷ ls) [] none = absurd (some_none (n, l) none)
alike n [] (g ∷ gs) none = absurd (some_none (n, []) none)
alike n (l ∷ ls) (g ∷ gs) none = alike_by (bytes_eq l g) n l g ls gs refl (alike (suc n) ls gs) none

pub own : (n : ℕ) (ls : List (List ℕ)) → first_unlike n ls ls ≡ None
own n [] = refl
own n (l ∷ ls) =
    ap (λ (b : Bool). cond b (first_unlike (suc n) ls ls) (Some (n, l))) ((bytes_eq-Decides l l).1 refl) ∙ own (suc n) ls

-- ---- looking for the first line feed byte by byte

one_more : (bs : List ℕ) (i : ℕ) → i < length bs → drop i bs ≡ get_or bs i 0 ∷ drop (i + 1) bs
one_more bs i h = drop-cons bs i 0 h ∙ rw add-one refl

end_by : (b : ℕ) (bs : List ℕ) (is : Bool) → is_line_feed b ≡ is → line_end (b ∷ bs) ≡ cond is 1 (suc (line_end bs))
end_by b bs is e = ap (λ (x : Bool). cond x 1 (suc (line_end bs))) e

pub looks_on : (bs : List ℕ) (i total : ℕ) → i < length bs → is_line_feed (get_or bs i 0) ≡ false → i + line_end (drop i bs) ≡ total
    → (i + 1) + line_end (drop (i + 1) bs) ≡ total
looks_on bs i total lt other so_far =
    let one : line_end (drop i bs) ≡ suc (line_end (drop (i + 1) bs)) =
    ap line_end (one_more bs i lt) ∙ end_by (get_or bs i 0) (drop (i + 1) bs) false other in
    omega (arith, one, so_far)

pub found : (bs : List ℕ) (i total : ℕ) → i < length bs → is_line_feed (get_or bs i 0) ≡ true → i + line_end (drop i bs) ≡ total → i + 1 ≡ total
found bs i total lt feed so_far =
    let one : line_end (drop i bs) ≡ 1 = ap line_end (one_more bs i lt) ∙ end_by (get_or bs i 0) (drop (i + 1) bs) true feed in
    omega (arith, one, so_far)

pub none_found : (bs : List ℕ) (i total : ℕ) → drop i bs ≡ [] → i + line_end (drop i bs) ≡ total → i ≡ total
none_found bs i total end so_far =
    let one : line_end (drop i bs) ≡ 0 = ap line_end end in
    omega (arith, one, so_far)
