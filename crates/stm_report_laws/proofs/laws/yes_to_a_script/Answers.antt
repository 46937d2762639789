use Rattle.stm_report_laws.proofs.ScriptsRead.{yes_to_a_script}
use Rattle.stm_report_laws.proofs.laws.yes_to_a_script.Goals as goal

pub returns-clause-yes : goal.returns-clause-yes
returns-clause-yes c = yes_to_a_script
