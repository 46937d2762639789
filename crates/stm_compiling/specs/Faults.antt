-- What is said of a source that is not compiled, and the status.
use Rattle.std.specs.Prelude.{◌≡◌, ◌⊎◌, ℕ, List, [], ◌++◌, take, Option, None, Some, Err, codes, decimal}
use Rattle.stm_explain.specs.Explaining.{explanation}
use Rattle.stm_explain.specs.Saying.{memory_fault, device_fault}
use Rattle.stm_terms.specs.CauseNames.{cause_name}
use Rattle.stm_terms.specs.Outcome.{Outcome}
use Rattle.stm_terms.specs.declared.faults.BadSource.{BadSource}
use Rattle.stm_terms.specs.declared.faults.SourceCause.{SourceCause}
use Rattle.stm_tokens.specs.Positions.{place_after}
use Rattle.stm_compiling.specs.declared.fault.CompileFault.{CompileFault}
use Rattle.stm_compiling.specs.declared.fault.CompileFault.TheVariants.{OutOfMemory, Bad, Device}

-- the line and the column of a source's byte
abbrev pub place_of : List ℕ → ℕ → ℕ × ℕ
place_of source at = place_after (take at source)

-- what is said of a cause at a line and a column
abbrev pub wrong_at : ℕ → ℕ → List ℕ → List ℕ
wrong_at line column cause = codes "stmrun: bad source at " ++ decimal line ++ codes ":" ++ decimal column ++ codes ": " ++ cause ++ codes "\n"

abbrev pub wrong_text : ℕ × ℕ → SourceCause → List ℕ
wrong_text place cause = wrong_at place.0 place.1 (cause_name cause)

-- nothing where no name is given; else a line of words under it, at a place, or nothing
abbrev pub IsExplanation : Option (List ℕ) → ℕ × ℕ → List ℕ → Type 0
IsExplanation None place more = more ≡ []
IsExplanation (Some name) place more = (more ≡ []) ⊎ ((words : List ℕ) × (more ≡ explanation name place.0 place.1 words))

-- a text says a cause at a place, and its explanation after it
abbrev pub SaysAt : Option (List ℕ) → ℕ × ℕ → SourceCause → List ℕ → Type 0
SaysAt name place cause text = (more : List ℕ) × IsExplanation name place more × (text ≡ wrong_text place cause ++ more)

-- it says a fault of a source
abbrev pub SaysFault : Option (List ℕ) → List ℕ → BadSource → List ℕ → Type 0
SaysFault name source bad text = SaysAt name (place_of source bad.at) bad.cause text

-- it says the fault that reading a text answers
abbrev pub SaysWrong : {A : Type 0} → Option (List ℕ) → List ℕ → Outcome A → List ℕ → Type 0
SaysWrong name source reading text = (bad : BadSource) × (reading ≡ Err bad) × SaysFault name source bad text

-- 2 for a bad source, 3 where memory ran out or a device failed
abbrev pub fault_status : CompileFault → ℕ
fault_status OutOfMemory = 3
fault_status (Bad text) = 2
fault_status Device = 3

abbrev pub fault_text : CompileFault → List ℕ
fault_text OutOfMemory = memory_fault
fault_text (Bad text) = text
fault_text Device = device_fault
