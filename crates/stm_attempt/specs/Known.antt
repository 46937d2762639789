-- What an attempt knows, and which of the prefetched answers serve it.
--
-- The Go package `clientv3/concurrency`, "STM", keeps the values that a failed commit fetched and hands them to the next
-- attempt as its first reads. That they serve it only as answers of its base revision is our own.
use Rattle.std.specs.Prelude.{◌≡◌, Bool, true, ◌==◌, List, [], ◌∷◌, filter, None}
use Rattle.stm_history.specs.declared.key_state.ReadAnswer.{ReadAnswer}
use Rattle.stm_compile.specs.Answers.{answer_in}

-- the answers that the attempt has read, in the order of first reads, and those that were prefetched for it
pub record Known : Type 0 where
  pub reads : List ReadAnswer
  pub prefetched : List ReadAnswer

abbrev pub known_of : List ReadAnswer → List ReadAnswer → Known
known_of reads prefetched = record { reads = reads; prefetched = prefetched }

-- an answer is of the base revision, the one that the first read shows; before a first read each one is
abbrev pub is_of_base : List ReadAnswer → ReadAnswer → Bool
is_of_base [] a = true
is_of_base (first ∷ reads) a = a.of_rev == first.of_rev

-- the prefetched answers that serve: those of the base revision
abbrev pub serving : List ReadAnswer → List ReadAnswer → List ReadAnswer
serving reads prefetched = filter (is_of_base reads) prefetched

-- no two answers are of one key
abbrev pub HaveDistinctKeys : List ReadAnswer → Type 0
HaveDistinctKeys [] = Unit {0}
HaveDistinctKeys (a ∷ answers) = (answer_in a.key answers ≡ None) × HaveDistinctKeys answers
