-- What is known of rules in a search by serial orders.
use Rattle.std.proofs.Common.{◌≡◌, ◌<◌, ◌≤◌, ℕ, zero, suc, ◌+◌, Bool, true, false, ◌&&◌, List, [], ◌∷◌, ◌++◌, length, map, take, drop, get_or, slice_set, refl, sym, ap, ap₂, ◌∙◌, subst, append_assoc, append-nil, arith}
use Rattle.std.proofs.lemmas.List.{drop_all}
use Rattle.std.specs.List.{AllZip}
use Rattle.stm_program.specs.Syntax.{ProgramTree}
use Rattle.stm_schedules.specs.Places.{Place}
use Rattle.stm_schedules.specs.Keeping.{keeps, AllKeep}
use Rattle.stm_schedules.proofs.Merging.{merges_keep}
use Rattle.stm_serial_search.specs.Search.{keep_all}
use Rattle.stm_serial_search.specs.Replaying.{IsJudged, AreJudged, if_undecided, undecided, or_always}
use Rattle.stm_serial_search.specs.declared.judging.Judged.{Judged}
use Rattle.stm_serial_search.specs.declared.judging.Judged.TheVariants.{Always, Broken, Undecided, NotAsked}

always_judged : (rule : ProgramTree) (p : Place) → AllKeep (keeps rule) p → IsJudged rule p Always
always_judged rule p all = (all, λ events merge. merges_keep.always (keeps rule) p events all merge)

-- ---- lists

pub as_many : {A B : Type 0} (R : A → B → Type 0) (xs : List A) (ys : List B) → AllZip R xs ys → length ys ≡ length xs
as_many R [] [] all = refl
as_many R [] (y ∷ ys) all = absurd all
as_many R (x ∷ xs) [] all = absurd all
as_many R (x ∷ xs) (y ∷ ys) all = ap suc (as_many R xs ys all.1)

-- one of them is put in, of which it is so where it was so before
pub zip_put : {A B : Type 0} (R : A → B → Type 0) (xs : List A) (ys : List B) (i : ℕ) (x : A) (d y : B) → i < length xs → x ≡ get_or xs i x → d ≡ get_or ys i d →
    (R x d → R x y) → AllZip R xs ys → AllZip R xs (slice_set ys i y)
zip_put R [] ys i x d y within is at more all = absurd (omega (arith, within))
zip_put R (a ∷ xs) [] i x d y within is at more all = absurd all
zip_put R (a ∷ xs) (b ∷ ys) zero x d y within is at more all = (subst (λ z. R z y) is (more (subst (λ z. R x z) (sym at) (subst (λ z. R z b) (sym is) all.0))), all.1)
zip_put R (a ∷ xs) (b ∷ ys) (suc i) x d y within is at more all = (all.0, zip_put R xs ys i x d y (omega (arith, within)) is at more all.1)

-- one of them more, which is so of whatever stands there
one_more_of : {A B : Type 0} (R : A → B → Type 0) (xs : List A) (ys : List B) (i : ℕ) (y : B) → i < length xs → ((x : A) → R x y) → AllZip R (take i xs) ys →
    AllZip R (take (suc i) xs) (ys ++ y ∷ [])
one_more_of R [] ys i y within any all = absurd (omega (arith, within))
one_more_of R (x ∷ xs) [] zero y within any all = (any x, tt)
one_more_of R (x ∷ xs) (b ∷ ys) zero y within any all = absurd all
one_more_of R (x ∷ xs) [] (suc i) y within any all = absurd all
one_more_of R (x ∷ xs) (b ∷ ys) (suc i) y within any all = (all.0, one_more_of R xs ys i y (omega (arith, within)) any all.1)

pub any_more : {A B : Type 0} (R : A → B → Type 0) (xs : List A) (ys : List B) (i : ℕ) (y : B) → i < length xs → ((x : A) → R x y) → AllZip R (take i xs) ys →
    AllZip R (take (i + 1) xs) (ys ++ y ∷ [])
any_more R xs ys i y within any all =
    let step : suc i ≡ i + 1 = omega arith in subst (λ n. AllZip R (take n xs) (ys ++ y ∷ [])) step (one_more_of R xs ys i y within any all)

-- ---- what is kept by all

both_left : (a b : Bool) → (a && b) ≡ true → a ≡ true
both_left true b is = refl
both_left false b is = absurd (cc)

both_right : (a b : Bool) → (a && b) ≡ true → b ≡ true
both_right true b is = is
both_right false b is = absurd (cc)

first_kept : (rule : ProgramTree) (rules : List ProgramTree) (p : Place) → AllKeep (keep_all (rule ∷ rules)) p → AllKeep (keeps rule) p
first_kept rule rules p all = λ schedule is. both_left _ _ (all schedule is)

others_kept : (rule : ProgramTree) (rules : List ProgramTree) (p : Place) → AllKeep (keep_all (rule ∷ rules)) p → AllKeep (keep_all rules) p
others_kept rule rules p all = λ schedule is. both_right _ _ (all schedule is)

-- where the rules that are not decided are kept by every schedule
pub others_always : (rules : List ProgramTree) (p : Place) (judged : List Judged) → AllKeep (keep_all (undecided rules judged)) p → AreJudged rules p judged →
    AreJudged rules p (map or_always judged)
others_always [] p [] kept all = all
others_always [] p (j ∷ judged) kept all = absurd all
others_always (rule ∷ rules) p [] kept all = absurd all
others_always (rule ∷ rules) p (Always ∷ judged) kept all = (all.0, others_always rules p judged kept all.1)
others_always (rule ∷ rules) p (Broken found ∷ judged) kept all = (all.0, others_always rules p judged kept all.1)
others_always (rule ∷ rules) p (NotAsked ∷ judged) kept all = (all.0, others_always rules p judged kept all.1)
others_always (rule ∷ rules) p (Undecided ∷ judged) kept all =
    (always_judged rule p (first_kept rule (undecided rules judged) p kept), others_always rules p judged (others_kept rule (undecided rules judged) p kept) all.1)

-- ---- those that are not decided, as a loop comes to them

next_told : (rules : List ProgramTree) (judged : List Judged) (i : ℕ) (rule : ProgramTree) (j : Judged) → i < length rules → i < length judged →
    rule ≡ get_or rules i rule → j ≡ get_or judged i j →
    undecided (drop i rules) (drop i judged) ≡ if_undecided rule j ++ undecided (drop (suc i) rules) (drop (suc i) judged)
next_told [] judged i rule j within here is at = absurd (omega (arith, within))
next_told (r ∷ rules) [] i rule j within here is at = absurd (omega (arith, here))
next_told (r ∷ rules) (b ∷ judged) zero rule j within here is at =
    ap₂ (λ (x : ProgramTree) (y : Judged). if_undecided x y ++ undecided rules judged) (sym is) (sym at)
next_told (r ∷ rules) (b ∷ judged) (suc i) rule j within here is at = next_told rules judged i rule j (omega (arith, within)) (omega (arith, here)) is at

-- one rule more was told
pub one_told : (rules : List ProgramTree) (judged : List Judged) (i : ℕ) (rule : ProgramTree) (j : Judged) (left next : List ProgramTree) →
    i < length rules → i < length judged → rule ≡ get_or rules i rule → j ≡ get_or judged i j → next ≡ left ++ if_undecided rule j →
    left ++ undecided (drop i rules) (drop i judged) ≡ undecided rules judged →
    next ++ undecided (drop (i + 1) rules) (drop (i + 1) judged) ≡ undecided rules judged
one_told rules judged i rule j left next within here is at more so_far =
    let step : i + 1 ≡ suc i = omega arith in
    let rest = undecided (drop (suc i) rules) (drop (suc i) judged) in
    ap (λ n. next ++ undecided (drop n rules) (drop n judged)) step ∙ ap (λ (xs : List ProgramTree). xs ++ rest) more ∙ append_assoc left (if_undecided rule j) rest
    ∙ ap (λ (xs : List ProgramTree). left ++ xs) (sym (next_told rules judged i rule j within here is at)) ∙ so_far

pub all_told : (rules : List ProgramTree) (judged : List Judged) (i : ℕ) (left : List ProgramTree) → length rules ≤ i →
    left ++ undecided (drop i rules) (drop i judged) ≡ undecided rules judged → left ≡ undecided rules judged
all_told rules judged i left all so_far =
    sym (append-nil left) ∙ sym (ap (λ (rs : List ProgramTree). left ++ undecided rs (drop i judged)) (drop_all i rules all)) ∙ so_far

-- ---- each is changed in its place

module _ {A : Type 0} (f : A → A) where
  next_is : (xs : List A) (i : ℕ) (d : A) → i < length xs → get_or (map f (take i xs) ++ drop i xs) i d ≡ get_or xs i d
  next_is [] i d within = absurd (omega (arith, within))
  next_is (x ∷ xs) zero d within = refl
  next_is (x ∷ xs) (suc i) d within = next_is xs i d (omega (arith, within))

  one_more : (xs : List A) (i : ℕ) (d : A) → i < length xs
      → slice_set (map f (take i xs) ++ drop i xs) i (f (get_or xs i d)) ≡ map f (take (suc i) xs) ++ drop (suc i) xs
  one_more [] i d within = absurd (omega (arith, within))
  one_more (x ∷ xs) zero d within = refl
  one_more (x ∷ xs) (suc i) d within = ap (λ (ys : List A). f x ∷ ys) (one_more xs i d (omega (arith, within)))

  pub put_next : (xs old : List A) (i : ℕ) (d new : A) → i < length xs → old ≡ map f (take i xs) ++ drop i xs → d ≡ get_or old i d → new ≡ f d
      → slice_set old i new ≡ map f (take (i + 1) xs) ++ drop (i + 1) xs
  put_next xs old i d new within is at put =
      let step : i + 1 ≡ suc i = omega arith in
      let same : d ≡ get_or xs i d = at ∙ ap (λ (ys : List A). get_or ys i d) is ∙ next_is xs i d within in
      let value : new ≡ f (get_or xs i d) = put ∙ ap f same in
      ap₂ (λ (ys : List A) (y : A). slice_set ys i y) is value
      ∙ one_more xs i d within
      ∙ sym (ap (λ (n : ℕ). map f (take n xs) ++ drop n xs) step)
