-- Keys that are still as they were read: no compare of them fails, and none has another value.
use Rattle.std.proofs.Common.{◌≡◌, ◌+◌, ℕ, List, [], ◌∷◌, map, Option, None, refl, arith}
use Rattle.std.specs.List.{find, AllByRecursion}
use Rattle.std.proofs.lemmas.Slice.Eq.{bytes_eq-Decides}
use Rattle.std.proofs.lemmas.Bool.Decides.{nat_tests}
use Rattle.stm_history.specs.declared.key_state.ReadAnswer.{ReadAnswer}
use Rattle.stm_history.specs.History.{History, key_now}
use Rattle.stm_program.specs.declared.level.Level.{Level}
use Rattle.stm_program.specs.declared.level.Level.TheVariants.{Serializable, RepeatableReads}
use Rattle.stm_history.specs.declared.change.Change.{Change}
use Rattle.stm_outcome.specs.Compares.{first_failed}
use Rattle.stm_compile.specs.CommitTxn.{is_as_read, compares_of}
use Rattle.stm_journal.specs.declared.causes.Cause.{Cause}
use Rattle.stm_journal.specs.Causes.{IsStill, cause_unvouched, cause_failed}
use Rattle.stm_journal.specs.Verdicts.{has_other_value, first_unvouched}

none_changed : (h : History) (reads : List ReadAnswer) (i : ℕ) → AllByRecursion (IsStill h) reads → first_failed (key_now h) i (map is_as_read reads) ≡ None
none_changed h [] i still = refl
none_changed h (a ∷ reads) i still = grind (arith, nat_tests, none_changed h reads (i + 1) still.1)

none_other : (h : History) (reads : List ReadAnswer) → AllByRecursion (IsStill h) reads → find (has_other_value h) reads ≡ None
none_other h [] still = refl
none_other h (a ∷ reads) still = grind (arith, nat_tests, bytes_eq-Decides, none_other h reads still.1)

-- what turns a commit down at a level
abbrev pub cause_at : History → List ReadAnswer → List Change → Level → Option Cause
cause_at h reads writes level =
    cause_failed (first_failed (key_now h) 0 (compares_of level reads writes)) (cause_unvouched (first_unvouched h level reads))

pub clear_serializable : (h : History) (reads : List ReadAnswer) (writes : List Change) → AllByRecursion (IsStill h) reads →
    cause_at h reads writes Serializable ≡ None
clear_serializable h reads writes still = grind (arith, nat_tests, none_changed, none_other)

pub clear_repeatable : (h : History) (reads : List ReadAnswer) (writes : List Change) → AllByRecursion (IsStill h) reads →
    cause_at h reads writes RepeatableReads ≡ None
clear_repeatable h reads writes still = clear_serializable h reads writes still
