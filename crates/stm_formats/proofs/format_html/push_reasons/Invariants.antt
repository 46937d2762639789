use Rattle.std.proofs.Common.{◌≡◌, ◌++◌, drop}
use Rattle.stm_formats.specs.FormatHtml.{reasons_html}
use Rattle.stm_formats.proofs.format_html.push_reasons.Given as goal

-- what was written so far, and the reasons that are left
abbrev pub invariant-loop-reason : goal.invariant-loop-reason
invariant-loop-reason l = l.out.items ++ reasons_html l.labels (drop l.reason-index l.reasons) ≡ l.fn.out.items ++ reasons_html l.labels l.reasons
