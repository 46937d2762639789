use Rattle.std.proofs.Common.{◌≡◌, ◌++◌, map, string_bytes}
use Rattle.stm_check.specs.StoreLines.{lease_line}
use Rattle.stm_report.specs.Forms.{formed_text}
use Rattle.stm_entries.proofs.ListedLeases.{terms}
use Rattle.stm_report.proofs.report_text.push_leases.Given as goal

-- the text so far, and the lines of the leases that are left
abbrev pub invariant-loop-id : goal.invariant-loop-id
invariant-loop-id l =
    string_bytes l.text ++ formed_text l.form (map lease_line (terms l.id-iterator))
    ≡ string_bytes l.fn.text ++ formed_text l.form (map lease_line (terms l.leases.entries))
