use Rattle.stm_recipe_lines.proofs.NumberLemmas.{amount_read, amount_unread}
use Rattle.stm_recipe_lines.proofs.reading.amount_in.Goals as goal

pub returns-in-Ok : goal.returns-in-Ok
returns-in-Ok c = amount_read c.args.word.now c.in-Ok.amount c.in-Ok.ensures.value.0.0 c.in-Ok.ensures.value.0.1

pub returns-in-Err : goal.returns-in-Err
returns-in-Err c = amount_unread c.args.word.now c.in-Err.ensures.value.0
