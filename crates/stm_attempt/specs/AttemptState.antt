-- An attempt: what contracts see of it, and what its calls make of it.
use Rattle.std.specs.Prelude.{◌≡◌, ℕ, List, [], ◌∷◌, ◌++◌, Option, None, Some, IfSome, is_some, if◌then◌else◌}
use Rattle.stm_history.specs.declared.key_state.ReadAnswer.{ReadAnswer}
use Rattle.stm_program.specs.Syntax.{ProgramTree}
use Rattle.stm_program.specs.declared.level.Level.{Level}
use Rattle.stm_program.specs.Levels.{is_serializable}
use Rattle.stm_compile.specs.Answers.{answer_in}
use Rattle.stm_attempt.specs.Known.{Known, serving}
use Rattle.stm_attempt.specs.Settled.{run_on, wanted}
use Rattle.stm_attempt.specs.Entering.{is_due, gone_on}

-- the program of its first call that was not refused, its level, and what it knows
pub record AttemptState : Type 0 where
  pub program : Option ProgramTree
  pub level : Level
  pub known : Known

-- a new attempt, for which these answers were prefetched
abbrev pub begun : Level → List ReadAnswer → AttemptState
begun level prefetched = record { program = None; level = level; known = record { reads = []; prefetched = prefetched } }

-- the next attempt at a level after a commit that failed and read these answers again: they are prefetched for it at a serializable level, and
-- dropped at the others
abbrev pub begun_after : Level → List ReadAnswer → AttemptState
begun_after level answers = begun level (if is_serializable level then answers else [])

-- the attempt has no other program
abbrev pub IsOf : ProgramTree → AttemptState → Type 0
IsOf program attempt = IfSome attempt.program (λ kept. kept ≡ program)

abbrev pub with_reads : List ReadAnswer → Known → Known
with_reads reads known = record known { reads = reads }

-- the attempt once its program went as far as what it knows takes it
abbrev pub advanced : ProgramTree → AttemptState → AttemptState
advanced program attempt =
    record attempt { program = Some program; known = with_reads (gone_on program attempt.known) attempt.known }

-- the attempt with one more answer
abbrev pub supplied : ReadAnswer → AttemptState → AttemptState
supplied a attempt = record attempt { known = with_reads (attempt.known.reads ++ a ∷ []) attempt.known }

-- the attempt with the answers to its program's list
abbrev pub supplied_all : List ReadAnswer → AttemptState → AttemptState
supplied_all answers attempt = record attempt { known = with_reads answers attempt.known }

-- a wanted key, unless one of these answers serves it
abbrev pub unserved : List ReadAnswer → Option (List ℕ) → Option (List ℕ)
unserved answers None = None
unserved answers (Some key) = if is_some (answer_in key answers) then None else Some key

-- the key that a program waits for: its list is not due, its run wants the key, and no prefetched answer serves it
abbrev pub awaited_by : ProgramTree → Known → Option (List ℕ)
awaited_by program known =
    if is_due program.prefetch known.reads then None else unserved (serving known.reads known.prefetched) (wanted (run_on program known.reads))

-- the list that a program waits for
abbrev pub list_awaited_by : ProgramTree → Known → Option (List (List ℕ))
list_awaited_by program known = if is_due program.prefetch known.reads then Some program.prefetch else None

-- the key that the attempt waits for; none before its program is known
abbrev pub awaited : AttemptState → Option (List ℕ)
awaited attempt = elim attempt.program [ None ↦ None | Some program ↦ awaited_by program attempt.known ]

-- the keys of the list that the attempt waits for; none before its program is known
abbrev pub list_awaited : AttemptState → Option (List (List ℕ))
list_awaited attempt = elim attempt.program [ None ↦ None | Some program ↦ list_awaited_by program attempt.known ]
