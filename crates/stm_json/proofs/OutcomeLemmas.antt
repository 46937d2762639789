-- What is known where reading answers a value, and what a function returns for an element.
use Rattle.std.proofs.Common.{◌≡◌, ℕ, Bool, true, false, cond, Result, Ok, Err, refl, subst, IfOk}
use Rattle.stm_json.specs.declared.cause.Cause.{Cause}
use Rattle.stm_json.specs.declared.read_error.ReadError.{ReadError}
use Rattle.stm_json.specs.Outcome.{Outcome, bad, ◌>>=◌, within}
use Rattle.stm_json.specs.Returns.{Returns}

pub bind_ok : {A B : Type 0} (r : Outcome A) (f : A → Outcome B) (y : B) → (r >>= f) ≡ Ok y → (x : A) × (r ≡ Ok x) × (f x ≡ Ok y)
bind_ok (Ok x) f y h = (x, refl, h)
bind_ok (Err e) f y h = cc

pub within_ok : {A : Type 0} (i : ℕ) (r : Outcome A) (x : A) → within i r ≡ Ok x → r ≡ Ok x
within_ok i (Ok y) x h = h
within_ok i (Err e) x h = cc

pub guard_ok : {A : Type 0} (b : Bool) (x y : A) (cause : Cause) → cond b (Ok x) (bad cause) ≡ Ok y → (b ≡ true) × (x ≡ y)
guard_ok true x y cause h = (refl, cc)
guard_ok false x y cause h = cc

-- ---- what a function returns, in other words than those of reading

-- what was read is so
pub reported_means : {X A : Type 0} (see : X → A) (P : A → Type 0) (r : Result X ReadError) (reading : Outcome A) → ((x : A) → reading ≡ Ok x → P x)
    → Returns see r reading → IfOk r (λ x. P (see x))
reported_means see P (Ok x) reading means h = means (see x) h
reported_means see P (Err e) reading means h = tt

-- what is so was read
pub reported_reads : {X A : Type 0} (see : X → A) (r : Result X ReadError) (reading other : Outcome A) → reading ≡ other → Returns see r reading
    → Returns see r other
reported_reads {X} {A} see r reading other is h = subst (λ (o : Outcome A). Returns see r o) is h
