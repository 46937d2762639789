-- What calls come to in a store that has dropped its revisions below the floor, beside what they come to in the whole one.
use Rattle.std.specs.Prelude.{ℕ, ◌-◌, Result, Ok, Err}
use Rattle.stm_history.specs.Cut.{cut}
use Rattle.stm_outcome.specs.declared.refusal.Refusal.{Refusal}
use Rattle.stm_outcome.specs.Terms.{Terms}
use Rattle.stm_outcome.specs.Outcome.{Done}
use Rattle.stm_txn.specs.Standing.{Standing, Step, Advance, kept}
use Rattle.stm_journal.specs.JournalState.{JournalState, JournalStep, with_store}

-- the same answer or refusal, and the store after it without its revisions below the floor
abbrev pub kept_step : {A : Type 0} → Result (Step A) Refusal → Result (Step A) Refusal
kept_step (Ok step) = Ok record { answer = step.answer; next = kept step.next }
kept_step (Err cause) = Err cause

-- the same of a lease's end,
abbrev pub kept_end : Result Standing Refusal → Result Standing Refusal
kept_end (Ok next) = Ok (kept next)
kept_end (Err cause) = Err cause

-- of an advance, which leaves a store also where it is refused,
abbrev pub kept_advance : Advance → Advance
kept_advance a = record { expired = a.expired; leaves = kept a.leaves; cause = a.cause }

-- and of what a transaction comes to
abbrev pub kept_done : ℕ → Result Done Refusal → Result Done Refusal
kept_done floor (Ok done) = Ok record { answer = done.answer; history = cut (floor - 1) done.history }
kept_done floor (Err cause) = Err cause

-- a journal whose store has dropped its revisions below the floor, and what a call of it comes to beside what it comes to in the whole one
abbrev pub kept_journal : JournalState → JournalState
kept_journal journal = with_store journal (kept journal.standing)

abbrev pub kept_journal_step : {A : Type 0} → Result (JournalStep A) Refusal → Result (JournalStep A) Refusal
kept_journal_step (Ok step) = Ok record { answer = step.answer; next = kept_journal step.next }
kept_journal_step (Err cause) = Err cause

-- the terms of a store that has dropped its revisions below the floor
abbrev pub kept_terms : Terms → Terms
kept_terms terms = record terms { history = cut (terms.floor - 1) terms.history }
