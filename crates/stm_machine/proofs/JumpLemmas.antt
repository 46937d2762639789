-- A jump of a machine: finishing comes to the same.
use Rattle.std.proofs.Common.{◌≡◌, List, ◌∷◌, arith}
use Rattle.std.specs.Prelude.{◌⊎◌}
use Rattle.std.proofs.lemmas.Bool.Decides.{nat_tests}
use Rattle.stm_steps.specs.Answer.{Lookup}
use Rattle.stm_steps.specs.Session.{Session}
use Rattle.stm_steps.specs.Meaning.{run_block}
use Rattle.stm_machine.specs.declared.focus.Item.TheVariants.{Nothing}
use Rattle.stm_machine.specs.declared.focus.Focus.TheVariants.{Give}
use Rattle.stm_machine.specs.declared.frame.Frame.{Frame}
use Rattle.stm_machine.specs.State.{MachineState}
use Rattle.stm_machine.specs.Finish.{finish_from}
use Rattle.stm_machine.specs.Direct.{PassesIn, JumpsExpression, JumpsStatement}
use Rattle.stm_machine.specs.Laws.{FinishAlike}

passes_alike : (look : Lookup) (frames : List Frame) (before after : Frame) (s t : Session) → PassesIn before s after t →
    finish_from look (Give Nothing) (after ∷ frames) t ≡ finish_from look (Give Nothing) (before ∷ frames) s
unfolding run_block
passes_alike look frames before after s t p = grind (arith, nat_tests)

statement_alike : (look : Lookup) (m n : MachineState) → JumpsStatement m n → FinishAlike look m n
statement_alike look m n j whole agree = grind (arith, nat_tests, passes_alike)

pub jumps_alike : (look : Lookup) (m n : MachineState) → JumpsExpression m n ⊎ JumpsStatement m n → FinishAlike look m n
jumps_alike look m n h4 = grind (arith, nat_tests, statement_alike)
