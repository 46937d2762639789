-- What reading a source answers: a value, or the first fault; and what a function returns beside that.
use Rattle.std.specs.Prelude.{◌≡◌, ℕ, List, Result, Ok, Err}
use Rattle.stm_tokens.specs.declared.token.Token.{Token}
use Rattle.stm_terms.specs.declared.faults.SourceCause.{SourceCause}
use Rattle.stm_terms.specs.declared.faults.BadSource.{BadSource}
use Rattle.stm_terms.specs.declared.faults.SourceError.{SourceError}
use Rattle.stm_terms.specs.declared.faults.SourceError.TheVariants.{OutOfMemory, Bad}

abbrev pub Outcome : Type 0 → Type 0
Outcome A = Result A BadSource

-- a value, and the tokens behind it
abbrev pub Read : Type 0 → Type 0
Read A = Outcome (A × List Token)

-- a fault of the token that begins at a byte
abbrev pub bad : {A : Type 0} → ℕ → SourceCause → Outcome A
bad at cause = Err (record { at = at; cause = cause })

-- the next step, where there is a value
infixl 10 ◌>>=◌
abbrev pub ◌>>=◌ : {A B : Type 0} → Outcome A → (A → Outcome B) → Outcome B
(Ok x) >>= f = f x
(Err e) >>= f = Err e

-- the error is the fault that reading answers, or says that memory ran out
abbrev pub ReturnsFault : {A : Type 0} → SourceError → Outcome A → Type 0
ReturnsFault OutOfMemory reading = Unit {0}
ReturnsFault (Bad fault) reading = reading ≡ Err fault

-- the result, seen by view, is what reading answers, unless memory ran out
abbrev pub Returns : {X A : Type 0} → (X → A) → Result X SourceError → Outcome A → Type 0
Returns view (Ok x) reading = reading ≡ Ok (view x)
Returns view (Err e) reading = ReturnsFault e reading
