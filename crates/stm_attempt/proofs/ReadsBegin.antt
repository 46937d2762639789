-- What an attempt reads begins with its program's list, up to where it is ready to commit.
use Rattle.std.proofs.Common.{◌≡◌, ℕ, Bool, cond, List, arith}
use Rattle.std.specs.Prelude.{Option, Some}
use Rattle.std.proofs.lemmas.Bool.Decides.{nat_tests}
use Rattle.stm_history.specs.declared.key_state.ReadAnswer.{ReadAnswer}
use Rattle.stm_program.specs.Syntax.{ProgramTree}
use Rattle.stm_program.specs.declared.level.Level.{Level}
use Rattle.stm_steps.specs.declared.run.Answered.{Answered}
use Rattle.stm_attempt.specs.declared.next.Next.TheVariants.{FetchAll, Ready}
use Rattle.stm_attempt.specs.Known.{Known}
use Rattle.stm_attempt.specs.Settled.{run_on}
use Rattle.stm_attempt.specs.Entering.{is_due}
use Rattle.stm_attempt.specs.ReadyRun.{ReadyRun}
use Rattle.stm_attempt.specs.AttemptState.{list_awaited}
use Rattle.stm_attempt.specs.Next.{next_after}
use Rattle.stm_attempt.specs.Laws.{BeginsWith, BeginsWithList, SuppliedListComesFirst, SuppliedKeyComesAfter, ReadyBeginsWithTheList}
use Rattle.stm_attempt.proofs.EnteringLemmas.{begins_more, list_begins, reads_begin_with_the_list}
use Rattle.stm_attempt.proofs.NextLemmas.{awaits_not_due}

-- ---- an answer more

list_is : (o : Option ProgramTree) (level : Level) (known : Known) (program : ProgramTree) (asked : List (List ℕ)) → o ≡ Some program
    → list_awaited (record { program = o; level = level; known = known }) ≡ Some asked → asked ≡ program.prefetch
list_is o level known program asked has is = grind (arith, nat_tests)

pub supplied_list_comes_first : SuppliedListComesFirst
supplied_list_comes_first program attempt answers has is = grind (arith, nat_tests, list_begins, list_is)

pub supplied_key_comes_after : SuppliedKeyComesAfter
supplied_key_comes_after program attempt answer has is begins = grind (arith, nat_tests, begins_more, awaits_not_due)

-- ---- ready

ready_after : (program : ProgramTree) (level : Level) (reads : List ReadAnswer) (x : Answered) (ready : ReadyRun)
    → BeginsWith program.prefetch reads → next_after program level reads x ≡ Ready ready → BeginsWith ready.program.prefetch ready.answers
ready_after program level reads x ready begins reported = grind (arith, nat_tests)

ready_on : (program : ProgramTree) (level : Level) (reads : List ReadAnswer) (ready : ReadyRun) (due : Bool) → is_due program.prefetch reads ≡ due
    → BeginsWithList program.prefetch reads
    → cond due (FetchAll program.prefetch 0) (next_after program level reads (run_on program reads)) ≡ Ready ready
    → BeginsWith ready.program.prefetch ready.answers
ready_on program level reads ready due not begins reported = grind (arith, nat_tests, ready_after)

pub ready_begins_with_the_list : ReadyBeginsWithTheList
ready_begins_with_the_list program level known ready begins reported = grind (arith, nat_tests, ready_on, reads_begin_with_the_list)
