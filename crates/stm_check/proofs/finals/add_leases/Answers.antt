use Rattle.std.proofs.Common.{◌≡◌, ◌++◌, [], List, ap, ◌∙◌, map}
use Rattle.stm_events.specs.declared.line.ReportLine.{ReportLine}
use Rattle.stm_check.specs.StoreLines.{lease_line}
use Rattle.stm_entries.proofs.ListedLeases.{terms}
use Rattle.stm_check.proofs.LiveLeases.{no_lease, lines_of_map}
use Rattle.stm_check.proofs.finals.add_leases.Goals as goal

pub returns : goal.returns
returns c live has =
    let leases = c.args.leases.now in
    let before = c.args.lines.now.items in
    let none : c.loop-id.id-iterator ≡ [] = c.in-None.ensures.steps.0 in
    no_lease c.loop-id.lines.items (before ++ map lease_line (terms leases.entries)) c.loop-id.id-iterator none c.loop-id.invariant
    ∙ ap (λ (ls : List ReportLine). before ++ ls) (lines_of_map leases live c.into_iter-id-iterator.ensures.into_iter_gives.5 has)
