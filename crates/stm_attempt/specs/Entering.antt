-- The list of a program, which enters an attempt before the first statement, and what the attempt has read once it went on.
--
-- The documentation of the Go package `clientv3/concurrency`, "WithPrefetch", calls it a hint to fetch a list of keys before a transaction
-- is tried. That its answers are reads of the attempt, and that a list is taken whole or fetched whole, is our own.
use Rattle.std.specs.Prelude.{ℕ, Bool, true, false, if◌then◌else◌, List, [], ◌∷◌, Option, None, Some}
use Rattle.stm_history.specs.declared.key_state.ReadAnswer.{ReadAnswer}
use Rattle.stm_program.specs.Syntax.{ProgramTree}
use Rattle.stm_compile.specs.Answers.{answer_in}
use Rattle.stm_attempt.specs.Known.{Known, known_of}
use Rattle.stm_attempt.specs.Settled.{settled}

-- the list is not among the reads yet: it enters whole, before anything else
abbrev pub is_due : List (List ℕ) → List ReadAnswer → Bool
is_due [] reads = false
is_due (key ∷ keys) [] = true
is_due (key ∷ keys) (a ∷ reads) = false

abbrev pub with_first : Option ReadAnswer → Option (List ReadAnswer) → Option (List ReadAnswer)
with_first None rest = None
with_first (Some a) None = None
with_first (Some a) (Some rest) = Some (a ∷ rest)

-- the answers of all these keys, in their order; nothing where one of them has none
abbrev pub answers_of_all : List (List ℕ) → List ReadAnswer → Option (List ReadAnswer)
answers_of_all [] answers = Some []
answers_of_all (key ∷ keys) answers = with_first (answer_in key answers) (answers_of_all keys answers)

-- after a list that is taken, the reads are settled
abbrev pub after_list : ProgramTree → Known → Option (List ReadAnswer) → List ReadAnswer
after_list program known None = known.reads
after_list program known (Some answers) = settled program (known_of answers known.prefetched)

-- The reads as far as what the attempt knows takes it. A list that is due is taken where all of it was prefetched; else it stays due.
abbrev pub gone_on : ProgramTree → Known → List ReadAnswer
gone_on program known =
    if is_due program.prefetch known.reads then after_list program known (answers_of_all program.prefetch known.prefetched) else settled program known
