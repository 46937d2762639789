-- A list with the numbers below n, each once, has n numbers: each number is taken out once.
use Rattle.std.proofs.Common.{◌≡◌, ℕ, zero, suc, ◌+◌, ◌<◌, cond, eqb, List, [], ◌∷◌, length, refl, sym, ap, ◌∙◌, ⊎_elim, arith}
use Rattle.std.proofs.Common.{add-one, lt-ltb, le-ltb, eq-eqb, ne_eqb}
use Rattle.std.proofs.lemmas.List.Sums.{sum_by-cons}
use Rattle.std.proofs.lemmas.Bool.{cases_eq}
use Rattle.stm_job.specs.Draw.{times, once_below, EachOnce}
use Rattle.stm_job.specs.Laws.{EachOnceIsAsMany}
use Rattle.stm_job.proofs.Sums.{bit, one_more}

times_cons : (x y : ℕ) (ys : List ℕ) → times x (y ∷ ys) ≡ bit (eqb y x) + times x ys
times_cons x y ys = sum_by-cons (λ (z : ℕ). cond (eqb z x) 1 0) y ys

-- a list without one of its numbers
record Without (k : ℕ) (numbers : List ℕ) : Type 0 where
  pub rest : List ℕ
  pub long : length numbers ≡ suc (length rest)
  pub counts : (x : ℕ) → times x numbers ≡ times x rest + bit (eqb k x)

turned : (a b c : ℕ) → a ≡ b + c → a ≡ c + b
turned a b c e = omega arith

passed_over : (whole part first rest hit : ℕ) → whole ≡ first + part → part ≡ rest + hit → whole ≡ (first + rest) + hit
passed_over whole part first rest hit is of = omega arith

later : (whole first rest : ℕ) → 0 < whole → whole ≡ first + rest → first ≡ 0 → 0 < rest
later whole first rest some_there is nothing = omega arith

without : (k : ℕ) (numbers : List ℕ) → 0 < times k numbers → Without k numbers
without k [] some_there = absurd (omega arith)
without k (y ∷ ys) some_there = ⊎_elim
    (λ (same : y ≡ k). record {
      rest = ys;
      long = omega arith;
      counts = λ x. turned (times x (y ∷ ys)) (bit (eqb y x)) (times x ys) (times_cons x y ys) ∙ ap (λ (z : ℕ). times x ys + bit (eqb z x)) same;
    })
    (λ (other : y ≡ k → ⊥).
    let r = without k ys (later (times k (y ∷ ys)) (bit (eqb y k)) (times k ys) some_there (times_cons k y ys) (ap bit (ne_eqb y k other))) in record {
      rest = y ∷ r.rest;
      long = omega (arith, r.long);
      counts = λ x. passed_over (times x (y ∷ ys)) (times x ys) (bit (eqb y x)) (times x r.rest) (bit (eqb k x)) (times_cons x y ys) (r.counts x)
          ∙ ap (λ (n : ℕ). n + bit (eqb k x)) (sym (times_cons x y r.rest));
    })
    (cases_eq y k)

-- the numbers below the next bound
one_higher : (n x : ℕ) → once_below (suc n) x ≡ once_below n x + bit (eqb n x)
one_higher n x = ap (λ (m : ℕ). once_below m x) (sym (add-one n)) ∙ one_more n x

cancelled : (t a b c : ℕ) → t ≡ a + c → t ≡ b + c → a ≡ b
cancelled t a b c e f = omega arith

one_there : (n : ℕ) (numbers : List ℕ) → EachOnce (suc n) numbers → 0 < times n numbers
one_there n numbers each = some (times n numbers) (each n ∙ ap bit (lt-ltb n (suc n) (omega arith)))
  where
    some : (t : ℕ) → t ≡ 1 → 0 < t
    some t e = omega arith

none_there : (y : ℕ) (ys : List ℕ) → EachOnce 0 (y ∷ ys) → ⊥
none_there y ys each =
    clash (times y (y ∷ ys)) (bit (eqb y y)) (times y ys) (times_cons y y ys) (ap bit (eq-eqb y y refl)) (each y ∙ ap bit (le-ltb y 0 (omega arith)))
  where
    clash : (t first rest : ℕ) → t ≡ first + rest → first ≡ 1 → t ≡ 0 → ⊥
    clash t first rest is one none = omega arith

pub as_many : EachOnceIsAsMany
as_many zero [] each = refl
as_many zero (y ∷ ys) each = absurd (none_there y ys each)
as_many (suc n) numbers each =
    let r = without n numbers (one_there n numbers each) in
    let fewer : EachOnce n r.rest =
    λ x. cancelled (times x numbers) (times x r.rest) (once_below n x) (bit (eqb n x)) (r.counts x) (each x ∙ one_higher n x) in
    r.long ∙ ap suc (as_many n r.rest fewer)
