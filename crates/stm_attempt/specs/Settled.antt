-- What an attempt has read once it has taken every prefetched answer that its program wants and that serves.
--
-- An answer that serves is taken at once, without a fetch, and stands among the reads as a fetched one would.
use Rattle.std.specs.Prelude.{ℕ, suc, zero, List, [], ◌∷◌, ◌++◌, length, Option, None, Some}
use Rattle.stm_history.specs.declared.key_state.ReadAnswer.{ReadAnswer}
use Rattle.stm_program.specs.Syntax.{ProgramTree}
use Rattle.stm_steps.specs.declared.run.Answered.{Answered}
use Rattle.stm_steps.specs.declared.run.Answered.TheVariants.{Ended, Wants}
use Rattle.stm_meaning.specs.Meaning.{run_over}
use Rattle.stm_compile.specs.Answers.{answer_in, look_up}
use Rattle.stm_attempt.specs.Known.{Known, serving}

-- the run of a program on answers
abbrev pub run_on : ProgramTree → List ReadAnswer → Answered
run_on program reads = run_over (look_up reads) program.statements

-- the key that a run wants
abbrev pub wanted : Answered → Option (List ℕ)
wanted (Ended run) = None
wanted (Wants key trace) = Some key

-- the answer for a key, where a key is wanted and has one
abbrev pub answer_for : Option (List ℕ) → List ReadAnswer → Option ReadAnswer
answer_for None answers = None
answer_for (Some key) answers = answer_in key answers

-- the prefetched answer that serves the key which the run on these reads wants
abbrev pub served : ProgramTree → List ReadAnswer → List ReadAnswer → Option ReadAnswer
served program prefetched reads = answer_for (wanted (run_on program reads)) (serving reads prefetched)

-- these reads, or with one more answer again
abbrev pub taken : (List ReadAnswer → List ReadAnswer) → List ReadAnswer → Option ReadAnswer → List ReadAnswer
taken again reads None = reads
taken again reads (Some a) = again (reads ++ a ∷ [])

-- the reads after taking at most this many answers
unfoldable pub settle : ℕ → ProgramTree → List ReadAnswer → List ReadAnswer → List ReadAnswer
settle zero program prefetched reads = reads
settle (suc n) program prefetched reads = taken (settle n program prefetched) reads (served program prefetched reads)

-- the reads once no prefetched answer serves any more: each of these is taken once at most
abbrev pub settled : ProgramTree → Known → List ReadAnswer
settled program known = settle (length known.prefetched) program known.prefetched known.reads
