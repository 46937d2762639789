-- What runs over two look-ups have in common, where one knows more than the other.
pub use Rattle.stm_steps.specs.Answer.{AgreesWith}
use Rattle.std.specs.Prelude.{◌≡◌, ℕ, ◌<◌, List, ◌++◌, length, None, IsSome}
use Rattle.stm_program.specs.Syntax.{Block}
use Rattle.stm_steps.specs.Answer.{Lookup}
use Rattle.stm_steps.specs.Meaning.{run_over}
use Rattle.stm_steps.specs.declared.trace_item.TraceItem.{TraceItem}
use Rattle.stm_steps.specs.declared.run.Run.{Run}
use Rattle.stm_steps.specs.declared.run.Answered.{Answered}
use Rattle.stm_steps.specs.declared.run.Answered.TheVariants.{Ended, Wants}

-- the look-up knows every key
abbrev pub KnowsEachKey : Lookup → Type 0
KnowsEachKey look = (key : List ℕ) → IsSome (look key)

abbrev pub IsPrefix : List TraceItem → List TraceItem → Type 0
IsPrefix front whole = (rest : List TraceItem) × (whole ≡ front ++ rest)

-- what a run saw, to its end or to the key that it wants
abbrev pub trace_of : Answered → List TraceItem
trace_of (Ended run) = run.trace
trace_of (Wants key trace) = trace

-- A run that came to its end is the other run, its end by `abort` or by a fault included. What a run saw that wants a key
-- is the beginning of what the other run saw.
abbrev pub IsContinuedBy : Answered → Answered → Type 0
IsContinuedBy (Ended run) other = other ≡ Ended run
IsContinuedBy (Wants key trace) other = IsPrefix trace (trace_of other)

-- a run on answers, and the run on a look-up that these agree with
abbrev pub AnswersGiveTheRun : Type 0
AnswersGiveTheRun = (answers whole : Lookup) (program : Block) → AgreesWith answers whole → IsContinuedBy (run_over answers program) (run_over whole program)

-- a run over a look-up that knows every key comes to its end
abbrev pub WholeLookupsEnd : Type 0
WholeLookupsEnd = (whole : Lookup) (program : Block) → KnowsEachKey whole → (run : Run) × (run_over whole program ≡ Ended run)

-- a key that a run wants is not empty, and the look-up knows nothing of it
abbrev pub WantedKeysAreUnknown : Type 0
WantedKeysAreUnknown = (answers : Lookup) (program : Block) (key : List ℕ) (trace : List TraceItem) →
    run_over answers program ≡ Wants key trace → (answers key ≡ None) × (0 < length key)
