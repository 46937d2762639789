use Rattle.stm_report_lines.proofs.NameLaws.{names_agree}
use Rattle.stm_report_lines.proofs.laws.names_agree.Goals as goal

pub returns : goal.returns
returns c = names_agree
