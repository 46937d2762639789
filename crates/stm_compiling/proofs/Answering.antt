-- From what reading a text answers to what is answered of it.
use Rattle.std.proofs.Common.{◌≡◌, List, ℕ, Option, Result, Ok, Err, refl, sym, subst, ap}
use Rattle.stm_terms.specs.Outcome.{Outcome, ReturnsFault, ◌>>=◌}
use Rattle.stm_terms.specs.declared.faults.SourceError.{SourceError}
use Rattle.stm_terms.specs.declared.faults.SourceError.TheVariants as error
use Rattle.stm_compiling.specs.Command.{Answers, PrintsAlone, Tells}
use Rattle.stm_compiling.specs.Parts.{scenario_alone}
use Rattle.stm_compiling.specs.Programs.{text_read}
use Rattle.stm_compiling.specs.declared.fault.CompileFault.{CompileFault}
use Rattle.stm_compiling.specs.declared.fault.CompileFault.TheVariants.{OutOfMemory, Bad, Device}
use Rattle.stm_compiling.specs.declared.part.Printed.{Printed}
use Rattle.stm_compiling.specs.declared.whole.Compiled.{Compiled}

-- a text that was not read
pub failed : {A : Type 0} (name : Option (List ℕ)) (source : List ℕ) (reading : Outcome A) (e : SourceError) (fault : CompileFault) → ReturnsFault e reading
    → Tells name source e fault → Answers name source reading (Err fault)
failed name source reading error.OutOfMemory fault read tells = subst (λ f. Answers name source reading (Err f)) (sym tells) tt
failed name source reading (error.Bad bad) OutOfMemory read tells = tt
failed name source reading (error.Bad bad) (Bad said) read tells = (bad, read, tells)
failed name source reading (error.Bad bad) Device read tells = absurd tells

-- a source that was read, and what is answered of it with a line behind it
pub when_read : {A B : Type 0} (name : Option (List ℕ)) (source longer : List ℕ) (reading : Outcome A) (a : A) (line : A → Outcome B) (result : Result B CompileFault)
    → reading ≡ Ok a → Answers name longer (line a) result → Answers name (text_read reading source longer) (reading >>= line) result
when_read name source longer reading a line result read answers =
    subst (λ r. Answers name (text_read r source longer) (r >>= line) result) (sym read) answers

-- one that was not
pub when_bad : {A B : Type 0} (name : Option (List ℕ)) (source longer : List ℕ) (reading : Outcome A) (e : SourceError) (line : A → Outcome B) (fault : CompileFault)
    → ReturnsFault e reading → Tells name source e fault → Answers name (text_read reading source longer) (reading >>= line) (Err fault)
when_bad name source longer reading error.OutOfMemory line fault read tells =
    subst (λ f. Answers name (text_read reading source longer) (reading >>= line) (Err f)) (sym tells) tt
when_bad name source longer reading (error.Bad bad) line fault read tells =
    subst (λ r. Answers name (text_read r source longer) (r >>= line) (Err fault)) (sym read) (failed name source (Err bad) (error.Bad bad) fault refl tells)

-- the next step, where there is an answer, and where there is none
pub next : {A B : Type 0} (name : Option (List ℕ)) (text : List ℕ) (reading : Outcome A) (a : A) (step : A → Outcome B) (b : B) → reading ≡ Ok a → step a ≡ Ok b
    → Answers name text (reading >>= step) (Ok b)
next name text reading a step b read stepped = subst (λ r. (r >>= step) ≡ Ok b) (sym read) stepped

pub none : {A B : Type 0} (name : Option (List ℕ)) (text : List ℕ) (reading : Outcome A) (step : A → Outcome B) (fault : CompileFault)
    → Answers name text reading (Err fault) → Answers name text (reading >>= step) (Err fault)
none name text reading step OutOfMemory answers = tt
none name text reading step (Bad said) (bad, e, says) = (bad, ap (λ r. r >>= step) e, says)
none name text reading step Device answers = absurd answers

-- what is printed of a scenario
pub alone : (name : Option (List ℕ)) (text : List ℕ) (reading : Outcome Compiled) (compiled : Compiled) (result : Result Printed CompileFault) → reading ≡ Ok compiled
    → PrintsAlone compiled result → Answers name text (reading >>= λ c. Ok (scenario_alone c)) result
alone name text reading compiled (Ok printed) read is = next name text reading compiled (λ c. Ok (scenario_alone c)) printed read (ap Ok (sym is))
alone name text reading compiled (Err fault) read is = subst (λ f. Answers name text (reading >>= λ c. Ok (scenario_alone c)) (Err f)) (sym is) tt
