-- What reading answers: a value, or the first fault.
use Rattle.std.specs.Prelude.{ℕ, List, [], ◌++◌, Result, Ok, Err, codes, decimal}
use Rattle.stm_json.specs.declared.cause.Cause.{Cause}
use Rattle.stm_json.specs.declared.read_error.BadInput.{BadInput}

-- a value, or the first fault
abbrev pub Outcome : Type 0 → Type 0
Outcome A = Result A BadInput

-- a fault of the value at hand
abbrev pub bad : {A : Type 0} → Cause → Outcome A
bad cause = Err (record { place = []; cause = cause })

-- the next step, where there is a value
infixl 10 ◌>>=◌
abbrev pub ◌>>=◌ : {A B : Type 0} → Outcome A → (A → Outcome B) → Outcome B
(Ok x) >>= f = f x
(Err e) >>= f = Err e

-- one step of a JSON Pointer: to the element at an index
abbrev pub step : ℕ → List ℕ
step index = codes "/" ++ decimal index

-- a fault of the element at an index, as a fault of the array
abbrev pub inside : ℕ → BadInput → BadInput
inside index fault = record { place = step index ++ fault.place; cause = fault.cause }

-- what was read of the element at an index, as what was read of the array
abbrev pub within : {A : Type 0} → ℕ → Outcome A → Outcome A
within index (Ok x) = Ok x
within index (Err fault) = Err (inside index fault)
