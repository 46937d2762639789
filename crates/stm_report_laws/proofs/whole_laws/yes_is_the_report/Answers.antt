use Rattle.stm_report_laws.proofs.WholeReportLaws.{yes_is_the_report}
use Rattle.stm_report_laws.proofs.whole_laws.yes_is_the_report.Goals as goal

pub returns : goal.returns
returns c = yes_is_the_report
