use Rattle.std.proofs.Common.{◌++◌, string_bytes, arith}
use Rattle.std.proofs.lemmas.List.{drop_all}
use Rattle.stm_audit.specs.Lines.{findings_text}
use Rattle.stm_audit.proofs.PrintLemmas.{one_line_more, all_lines}
use Rattle.stm_audit.proofs.lines.push_findings.Goals as goal

pub loop-finding-preserved : goal.loop-finding-preserved
loop-finding-preserved c =
    one_line_more c.args.findings.now c.loop-finding.finding-index c.finding-item.result (string_bytes c.loop-finding.text) _
    (string_bytes c.args.text.now ++ findings_text c.args.findings.now) c.loop-finding-test.true c.finding-item.is c.in_ok-push_finding.ensures
    c.loop-finding.invariant

pub returns : goal.returns
returns c =
    all_lines c.args.findings.now c.loop-finding.finding-index (string_bytes c.loop-finding.text) _
    (drop_all c.loop-finding.finding-index c.args.findings.now (omega arith)) c.loop-finding.invariant
