use Rattle.stm_report_laws.proofs.FormatOneRow.{one_row_an_event}
use Rattle.stm_report_laws.proofs.format_laws.one_row_an_event.Goals as goal

pub returns : goal.returns
returns c = one_row_an_event
