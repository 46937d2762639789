-- What a copy of an attempt is.
use Rattle.std.proofs.Common.{◌≡◌, List, arith}
use Rattle.std.proofs.lemmas.Bool.Decides.{nat_tests}
use Rattle.stm_history.specs.declared.key_state.ReadAnswer.{ReadAnswer}
use Rattle.stm_program.specs.Syntax.{ProgramTree}
use Rattle.stm_program.specs.declared.level.Level.{Level}
use Rattle.stm_history.specs.declared.change.Change.{Change}
use Rattle.stm_program.specs.Writes.{latest_writes}
use Rattle.stm_program.proofs.LatestLemmas.{latest_writes-distinct}
use Rattle.stm_steps.specs.declared.value.Value.{Value}
use Rattle.stm_steps.specs.declared.trace_item.TraceItem.{TraceItem}
use Rattle.stm_compile.proofs.BufferLemmas.{latest_of_distinct}
use Rattle.stm_attempt.specs.ReadyRun.{ReadyRun, IsRunOnItsAnswers, ready_parts}

-- the latest of an attempt's writes are these
pub writes_again : (ready : ReadyRun) → IsRunOnItsAnswers ready → latest_writes ready.writes ≡ ready.writes
writes_again ready kept = grind (arith, nat_tests, latest_of_distinct, latest_writes-distinct)

-- a copy of each part is a copy of the whole
pub same_parts : (p q : ProgramTree) (level : Level) (a b : List ReadAnswer) (o u : List Value) (t v : List TraceItem) (w x : List Change) → q ≡ p → b ≡ a →
    u ≡ o → v ≡ t → x ≡ w → ready_parts q level b u v x ≡ ready_parts p level a o t w
same_parts p q level a b o u t v w x program answers output trace writes = grind (arith, nat_tests)
