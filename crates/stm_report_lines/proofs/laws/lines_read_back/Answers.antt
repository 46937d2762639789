use Rattle.stm_report_lines.proofs.ReadBack.{lines_read_back}
use Rattle.stm_report_lines.proofs.laws.lines_read_back.Goals as goal

pub returns : goal.returns
returns c = lines_read_back
