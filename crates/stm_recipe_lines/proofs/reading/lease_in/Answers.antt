use Rattle.std.proofs.Common.{◌∙◌}
use Rattle.stm_recipe_lines.proofs.NumberLemmas.{lease_read, lease_unread}
use Rattle.stm_recipe_lines.proofs.reading.lease_in.Goals as goal

pub returns-in-Ok-clause-exact : goal.returns-in-Ok-clause-exact
returns-in-Ok-clause-exact c =
    c.lease_of.ensures.exact ∙ lease_read c.args.word.now c.in-Ok.number c.in-Ok.ensures.value.0.0 c.in-Ok.ensures.value.0.1

pub returns-in-Err-clause-exact : goal.returns-in-Err-clause-exact
returns-in-Err-clause-exact c = lease_unread c.args.word.now c.in-Err.ensures.value.0
