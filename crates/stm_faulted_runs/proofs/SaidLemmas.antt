-- What is said of explanations has their form, or is nothing.
use Rattle.std.proofs.Common.{◌≡◌, List, ℕ, [], Result, Ok, Err, IfOk, OnErr, inl, inr, subst, sym}
use Rattle.stm_faulted_runs.specs.Lines.{OrNothing}

pub said : {A E : Type 0} (Form : List ℕ → Type 0) (bytes : A → List ℕ) (explained : Result A E) (text : List ℕ) →
    IfOk explained (λ lines. Form (bytes lines)) → IfOk explained (λ lines. text ≡ bytes lines) → OnErr explained (text ≡ []) → OrNothing Form text
said Form bytes (Ok lines) text form same none = inr (subst Form (sym same) form)
said Form bytes (Err fault) text form same none = inl none
