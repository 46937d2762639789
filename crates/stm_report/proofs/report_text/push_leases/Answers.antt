use Rattle.std.proofs.Common.{◌≡◌, ◌++◌, [], ap, ◌∙◌, map, string_bytes}
use Rattle.stm_check.specs.StoreLines.{lease_line}
use Rattle.stm_report.specs.Forms.{formed_text}
use Rattle.stm_entries.proofs.ListedLeases.{terms}
use Rattle.stm_report.proofs.LiveLeases.{no_lease, lines_of_map}
use Rattle.stm_report.proofs.report_text.push_leases.Goals as goal

pub returns : goal.returns
returns c live has =
    let leases = c.args.leases.now in
    let before = string_bytes c.args.text.now in
    let none : c.loop-id.id-iterator ≡ [] = c.in-None.ensures.steps.0 in
    no_lease c.args.form (string_bytes c.loop-id.text) (before ++ formed_text c.args.form (map lease_line (terms leases.entries))) c.loop-id.id-iterator none c.loop-id.invariant
    ∙ ap (λ ds. before ++ formed_text c.args.form ds) (lines_of_map leases live c.into_iter-id-iterator.ensures.into_iter_gives.5 has)
