-- A program that is run alone on the store of a world.
use Rattle.std.proofs.Common.{◌≡◌, ◌∙◌, ◌≤◌, List, ℕ, Option, Some, Result, ap, arith}
use Rattle.std.specs.Prelude.{IfOk}
use Rattle.std.specs.declared.alloc.AllocError.{AllocError}
use Rattle.std.proofs.lemmas.Bool.Decides.{nat_tests}
use Rattle.stm_history.specs.declared.key_state.KeyState.{KeyState}
use Rattle.stm_history.specs.History.{History, now}
use Rattle.stm_program.specs.Syntax.{ProgramTree}
use Rattle.stm_steps.specs.declared.run.Run.{Run}
use Rattle.stm_steps.specs.declared.run.Answered.TheVariants.{Ended}
use Rattle.stm_meaning.specs.Answer.{Lookup}
use Rattle.stm_meaning.specs.Meaning.{run_over}
use Rattle.stm_txn.specs.Standing.{Standing, kept}
use Rattle.stm_compile.specs.Answers.{seen_of, state_now}
use Rattle.stm_compaction.proofs.Alike.{IsAlike, cut_is_alike}

-- a store that stands for a history has its state
pub now_of_kept : (s : Standing) (g : History) → g ≡ (kept s).history → s.floor ≤ now s.history → state_now g ≡ state_now s.history
now_of_kept s g is reached =
    let alike : IsAlike s.floor (kept s).history s.history = cut_is_alike s.floor s.history reached in
    ap state_now is ∙ ap (λ (state : List ℕ → Option KeyState). (let look : Lookup = λ key. Some (seen_of (state key)) in look)) alike.keys_now

pub run_reported : (program : ProgramTree) (s : Standing) (g : History) (result : Result Run AllocError) → g ≡ (kept s).history → s.floor ≤ now s.history →
    IfOk result (λ run. run_over (state_now g) program.statements ≡ Ended run) → IfOk result (λ run. run_over (state_now s.history) program.statements ≡ Ended run)
run_reported program s g result is reached ended = grind (arith, nat_tests, now_of_kept)
