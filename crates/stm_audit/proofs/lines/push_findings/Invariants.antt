use Rattle.std.proofs.Common.{◌≡◌, ◌++◌, drop, string_bytes}
use Rattle.stm_audit.specs.Lines.{findings_text}
use Rattle.stm_audit.proofs.lines.push_findings.Given as goal

-- the lines so far, and then those of the rest
abbrev pub invariant-loop-finding : goal.invariant-loop-finding
invariant-loop-finding l =
    string_bytes l.text ++ findings_text (drop l.finding-index l.findings) ≡ string_bytes l.fn.text ++ findings_text l.findings
