-- What a function returns, beside what reading answers.
use Rattle.std.specs.Prelude.{◌≡◌, ◌⊎◌, ℕ, Result, Ok, Err}
use Rattle.stm_json.specs.declared.read_error.ReadError.{ReadError}
use Rattle.stm_json.specs.declared.read_error.ReadError.TheVariants.{OutOfMemory, Bad}
use Rattle.stm_json.specs.Outcome.{Outcome, inside}

-- the error is the fault that reading answers, or says that memory ran out
abbrev pub ReturnsFault : {A : Type 0} → ReadError → Outcome A → Type 0
ReturnsFault OutOfMemory reading = Unit {0}
ReturnsFault (Bad fault) reading = reading ≡ Err fault

-- The result, seen by view, is what reading answers, unless memory ran out.
abbrev pub Returns : {X A : Type 0} → (X → A) → Result X ReadError → Outcome A → Type 0
Returns view (Ok x) reading = reading ≡ Ok (view x)
Returns view (Err e) reading = ReturnsFault e reading

-- the outcome at an index, as the outcome of the array
abbrev pub Wraps : {X : Type 0} → ℕ → Result X ReadError → Result X ReadError → Type 0
Wraps index (Ok x) result = result ≡ Ok x
Wraps index (Err OutOfMemory) result = result ≡ Err OutOfMemory
Wraps index (Err (Bad fault)) result = (result ≡ Err OutOfMemory) ⊎ (result ≡ Err (Bad (inside index fault)))
