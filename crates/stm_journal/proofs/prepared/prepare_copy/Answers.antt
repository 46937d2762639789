use Rattle.std.proofs.Common.{◌∙◌}
use Rattle.stm_journal.proofs.prepared.prepare_copy.Goals as goal

pub returns-clause-prepared : goal.returns-clause-prepared
returns-clause-prepared c = c.prepare.ensures ∙ c.in_ok-copy.ensures
