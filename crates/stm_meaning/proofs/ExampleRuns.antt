-- Programs of one statement, and what the worked examples look at of a run.
use Rattle.std.proofs.Common.{List, []}
use Rattle.stm_program.specs.Syntax.{Statement, Block, End, Then}
use Rattle.stm_steps.specs.declared.value.Value.{Value}
use Rattle.stm_steps.specs.declared.run.End.{End as RunEnd}
use Rattle.stm_steps.specs.declared.run.End.TheVariants.{Done}
use Rattle.stm_steps.specs.declared.run.Answered.{Answered}
use Rattle.stm_steps.specs.declared.run.Answered.TheVariants.{Ended, Wants}

abbrev pub end_of : Answered → RunEnd
end_of (Ended r) = r.end
end_of (Wants k t) = Done

abbrev pub output_of : Answered → List Value
output_of (Ended r) = r.output
output_of (Wants k t) = []

abbrev pub one : Statement → Block
one s = Then s End
