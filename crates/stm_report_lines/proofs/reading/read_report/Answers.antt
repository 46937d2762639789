use Rattle.std.specs.Prelude.{Ok}
use Rattle.stm_json.proofs.FaultLemmas.{reported_faults}
use Rattle.stm_json.proofs.OutcomeLemmas.{reported_means, reported_reads}
use Rattle.stm_events.specs.declared.line.Report.{Report}
use Rattle.stm_report_lines.specs.FirstFault.{first_fault}
use Rattle.stm_report_lines.specs.Grammar.{SpellsReport}
use Rattle.stm_report_lines.specs.Reading.{report_in}
use Rattle.stm_report_lines.proofs.ReportLaws.{first_fault-is, report_means, report_reads}
use Rattle.stm_report_lines.proofs.reading.read_report.Goals as goal

pub returns-clause-spelled : goal.returns-clause-spelled
returns-clause-spelled c =
    let bytes = c.args.bytes.now in
    reported_means (λ (r : Report). r) (SpellsReport bytes) c.report_of_bytes.result (report_in bytes) (report_means bytes) c.report_of_bytes.ensures

pub returns-clause-accepts : goal.returns-clause-accepts
returns-clause-accepts c r spelled =
    let bytes = c.args.bytes.now in
    reported_reads (λ (x : Report). x) c.report_of_bytes.result (report_in bytes) (Ok r) (report_reads bytes r spelled) c.report_of_bytes.ensures

pub returns-clause-faults : goal.returns-clause-faults
returns-clause-faults c =
    let bytes = c.args.bytes.now in
    reported_faults (λ (r : Report). r) (first_fault bytes) c.report_of_bytes.result (report_in bytes) (first_fault-is bytes) c.report_of_bytes.ensures
