-- On what values a run aborted or came to a fault, as notes: what its last attempt had read.
--
-- The Go package `concurrency`, "STM": each attempt begins anew. What a failed commit at a serializable level read again is not told here: no event shows it.
use Rattle.std.specs.Prelude.{ℕ, zero, suc, ◌+◌, nat_eq, nat_lt, if◌then◌else◌, Bool, false, List, [], ◌∷◌, ◌++◌, length, drop, slice_get, Option, Some, None, Result, Ok, Err, codes, decimal}
use Rattle.stm_history.specs.History.{History}
use Rattle.stm_events.specs.declared.reply.Reply.{Reply}
use Rattle.stm_events.specs.declared.reply.Reply.TheVariants.{Started, Prefetched, Fetched, Conflict, Aborted, Faulted}
use Rattle.stm_events.specs.declared.reply.KeyRead.{KeyRead}
use Rattle.stm_events.specs.declared.refusal.Denied.{Denied}
use Rattle.stm_formats.specs.declared.format_label.RunnerLabel.{RunnerLabel}
use Rattle.stm_formats.specs.declared.format_keys.Cuts.{Cuts}
use Rattle.stm_formats.specs.FormatPieces.{joined}
use Rattle.stm_formats.specs.FormatLabels.{runner_words}
use Rattle.stm_formats.specs.FormatWords.{seen_words, reads_after}

-- an attempt of the runner begins with this reply
abbrev pub begins : ℕ → Result Reply Denied → Bool
begins runner (Ok (Started begun)) = nat_eq begun runner
begins runner (Ok (Conflict loser key seen now)) = nat_eq loser runner
begins runner other = false

-- what was read at an event
abbrev pub read_at : ℕ → List ℕ → List ℕ
read_at number words = joined (codes ", " ∷ words ∷ codes " (event " ∷ decimal number ∷ codes ")" ∷ [])

-- a key that was read at an event
abbrev pub fetched_at : Cuts → History → ℕ → List ℕ → ℕ → ℕ → List ℕ
fetched_at cuts h number key mod_rev of_rev = read_at number (seen_words cuts h key mod_rev of_rev)

-- a list that was read at an event
abbrev pub listed_at : Cuts → History → ℕ → ℕ → List KeyRead → List ℕ
listed_at cuts h number revision reads = read_at number (joined (codes "the list" ∷ reads_after cuts h revision 0 reads ∷ []))

-- what the runner read by this reply to an event
abbrev pub own_read : Cuts → History → ℕ → ℕ → Result Reply Denied → List ℕ
own_read cuts h runner number (Ok (Fetched reader key mod_rev of_rev revision)) =
    if nat_eq reader runner then fetched_at cuts h number key mod_rev of_rev else []
own_read cuts h runner number (Ok (Prefetched reader revision reads)) =
    if nat_eq reader runner then listed_at cuts h number revision reads else []
own_read cuts h runner number other = []

-- of an event that has a reply, unless an attempt begins with it what was read before it and at it
abbrev pub reads_to : Cuts → History → ℕ → ℕ → Option (Result Reply Denied) → List ℕ → List ℕ
reads_to cuts h runner number None earlier = []
reads_to cuts h runner number (Some reply) earlier = if begins runner reply then [] else earlier ++ own_read cuts h runner number reply

-- what the runner's attempt had read before that event, of these replies
abbrev pub attempt_reads : Cuts → History → ℕ → List (Result Reply Denied) → ℕ → List ℕ
attempt_reads cuts h runner replies zero = []
attempt_reads cuts h runner replies (suc before) = reads_to cuts h runner (suc before) (slice_get replies before) (attempt_reads cuts h runner replies before)

-- a note, where something was read: of the first read without the comma before it
abbrev pub noted : List ℕ → List ℕ → List (List ℕ)
noted words reads = if nat_lt (length reads) 2 then [] else joined (words ∷ codes ": it had read " ∷ drop 2 reads ∷ []) ∷ []

abbrev pub end_words : List RunnerLabel → List ℕ → ℕ → ℕ → List ℕ
end_words labels word runner number = joined (runner_words labels runner ∷ word ∷ decimal number ∷ [])

-- the run that a reply ends by an abort or a fault, and the words for that
abbrev pub ended : Result Reply Denied → Option (ℕ × List ℕ)
ended (Ok (Aborted runner text)) = Some (runner, codes " aborts at event ")
ended (Ok (Faulted runner fault)) = Some (runner, codes " faults at event ")
ended other = None

abbrev pub ended_note : Cuts → List RunnerLabel → History → List (Result Reply Denied) → ℕ → Option (ℕ × List ℕ) → List (List ℕ)
ended_note cuts labels h replies before None = []
ended_note cuts labels h replies before (Some end) = noted (end_words labels end.1 end.0 (before + 1)) (attempt_reads cuts h end.0 replies before)

-- the note of the event after that many, with this reply
abbrev pub end_note : Cuts → List RunnerLabel → History → List (Result Reply Denied) → ℕ → Result Reply Denied → List (List ℕ)
end_note cuts labels h replies before reply = ended_note cuts labels h replies before (ended reply)

-- those of these replies, the first of them to the event after that many
abbrev pub end_notes : Cuts → List RunnerLabel → History → List (Result Reply Denied) → ℕ → List (Result Reply Denied) → List (List ℕ)
end_notes cuts labels h replies before [] = []
end_notes cuts labels h replies before (reply ∷ later) = end_note cuts labels h replies before reply ++ end_notes cuts labels h replies (suc before) later
