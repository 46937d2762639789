-- Rows, one after the other.
use Rattle.std.proofs.Common.{◌≡◌, ℕ, suc, ◌+◌, ◌<◌, List, [], ◌∷◌, ◌++◌, length, drop, get_or, Result, sym, ap, ◌∙◌, append_assoc, arith}
use Rattle.stm_history.specs.History.{History}
use Rattle.stm_events.specs.declared.event.WorldEvent.{WorldEvent}
use Rattle.stm_events.specs.declared.reply.Reply.{Reply}
use Rattle.stm_events.specs.declared.reply.KeyRead.{KeyRead}
use Rattle.stm_events.specs.declared.refusal.Denied.{Denied}
use Rattle.stm_reasons.specs.Counters.{counter_after}
use Rattle.stm_formats.specs.declared.format_keys.Cuts.{Cuts}
use Rattle.stm_formats.specs.declared.format_label.RunnerLabel.{RunnerLabel}
use Rattle.stm_formats.specs.declared.format_row.Row.{Row}
use Rattle.stm_formats.specs.FormatWords.{counted_read, reads_after}
use Rattle.stm_formats.specs.FormatRows.{row_of, rows_of}
use Rattle.stm_formats.proofs.Joining.{left_at}

-- the row of one more event
pub next_row : (cuts : Cuts) (labels : List RunnerLabel) (h : History) (before : ℕ) (out total : List Row) (events : List WorldEvent) (replies : List (Result Reply Denied)) (i : ℕ) (e : WorldEvent)
    (r : Result Reply Denied) → i < length replies → length events ≡ length replies → e ≡ get_or events i e → r ≡ get_or replies i r
    → out ++ rows_of cuts labels h before (i + 1) (drop i events) (drop i replies) ≡ total
    → (out ++ row_of cuts labels h before (i + 1) e r ∷ []) ++ rows_of cuts labels h (counter_after before r) ((i + 1) + 1) (drop (i + 1) events) (drop (i + 1) replies) ≡ total
next_row cuts labels h before out total events replies i e r within same event reply so_far =
    let step : (i + 1) + 1 ≡ suc (i + 1) = omega arith in
    let after : ℕ = counter_after before r in
    let rest : List Row = rows_of cuts labels h after ((i + 1) + 1) (drop (i + 1) events) (drop (i + 1) replies) in
    append_assoc out (row_of cuts labels h before (i + 1) e r ∷ []) rest
    ∙ ap (λ (n : ℕ). out ++ row_of cuts labels h before (i + 1) e r ∷ rows_of cuts labels h after n (drop (i + 1) events) (drop (i + 1) replies)) step
    ∙ ap (λ (es : List WorldEvent). out ++ rows_of cuts labels h before (i + 1) es (r ∷ drop (i + 1) replies)) (sym (left_at events i e (omega (arith, same)) event))
    ∙ ap (λ (rs : List (Result Reply Denied)). out ++ rows_of cuts labels h before (i + 1) (drop i events) rs) (sym (left_at replies i r within reply))
    ∙ so_far

-- the words of one more key of a list
pub next_read : (cuts : Cuts) (h : History) (revision : ℕ) (out total : List ℕ) (reads : List KeyRead) (i : ℕ) (r : KeyRead) → i < length reads → r ≡ get_or reads i r
    → out ++ reads_after cuts h revision i (drop i reads) ≡ total
    → (out ++ counted_read cuts h revision i r) ++ reads_after cuts h revision (i + 1) (drop (i + 1) reads) ≡ total
next_read cuts h revision out total reads i r within is so_far =
    let step : i + 1 ≡ suc i = omega arith in
    append_assoc out (counted_read cuts h revision i r) (reads_after cuts h revision (i + 1) (drop (i + 1) reads))
    ∙ ap (λ (n : ℕ). out ++ (counted_read cuts h revision i r ++ reads_after cuts h revision n (drop (i + 1) reads))) step
    ∙ ap (λ (rs : List KeyRead). out ++ reads_after cuts h revision i rs) (sym (left_at reads i r within is))
    ∙ so_far
