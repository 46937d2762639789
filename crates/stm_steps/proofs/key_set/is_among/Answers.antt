use Rattle.std.proofs.Common.{◌∙◌}
use Rattle.stm_steps.proofs.SearchedLemmas.{among_flipped}
use Rattle.stm_steps.proofs.key_set.is_among.Goals as goal

pub returns : goal.returns
returns c = c.contains.ensures.value ∙ among_flipped c.args.key.now c.args.keys.now
