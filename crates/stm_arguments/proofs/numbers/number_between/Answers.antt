use Rattle.stm_arguments.proofs.NumberLemmas.{no_number, none_between}
use Rattle.stm_arguments.proofs.numbers.number_between.Goals as goal

-- a number that was read is the one that the text spells
pub returns-in-Ok-clause-none : goal.returns-in-Ok-clause-none
returns-in-Ok-clause-none c = none_between c.args.low c.args.high c.args.text.now c.in-Ok.number c.between.result c.in-Ok.ensures.value.0.1 c.between.ensures.none

-- what spells no number of 64 bits spells none of these
pub returns-in-Err-clause-none : goal.returns-in-Err-clause-none
returns-in-Err-clause-none c = no_number c.args.low c.args.high c.args.text.now c.in-Err.ensures.value.0
