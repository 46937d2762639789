-- True answers of one revision are of one state.
use Rattle.std.proofs.Common.{◌≡◌, ℕ, List, [], ◌∷◌, arith}
use Rattle.std.specs.List.{AllByRecursion}
use Rattle.std.proofs.lemmas.List.Elements.{All-from_recursion}
use Rattle.std.proofs.lemmas.Bool.Decides.{nat_tests}
use Rattle.stm_history.specs.declared.key_state.ReadAnswer.{ReadAnswer}
use Rattle.stm_history.specs.History.{History}
use Rattle.stm_compile.specs.Answers.{AreTrue}
use Rattle.stm_compile.proofs.AgreeLemmas.{answers_of_one_revision}
use Rattle.stm_attempt.specs.Fetches.{AllShow, HaveOneBase}
use Rattle.stm_world.specs.Task.{Task}
use Rattle.stm_world.specs.Headline.{AreOfOneState}

pub all_show : (r : ℕ) (answers : List ReadAnswer) → AllShow r answers → AllByRecursion (λ (a : ReadAnswer). a.of_rev ≡ r) answers
all_show r [] all = tt
all_show r (a ∷ answers) all = (all.0, all_show r answers all.1)

pub are_of_one_state : (h : History) (task : Task) (reads : List ReadAnswer) → HaveOneBase reads → AreTrue h reads → AreOfOneState h task reads
are_of_one_state h task reads one truth = grind (arith, nat_tests, answers_of_one_revision, All-from_recursion, all_show)
