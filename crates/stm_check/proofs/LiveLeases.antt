-- The lines of the live leases, ascending by id.
use Rattle.std.proofs.Common.{◌≡◌, ℕ, List, [], ◌++◌, sym, ap, ◌∙◌, append-nil, map}
use Rattle.std.specs.BTreeMap.{BTreeMap, IsOrdered}
use Rattle.std.specs.Ordering.{nat_cmp}
use Rattle.stm_leases.specs.Live.{Live}
use Rattle.stm_entries.specs.declared.live_leases.LiveLease.{LiveLease}
use Rattle.stm_entries.specs.LiveLeases.{HasLeases}
use Rattle.stm_entries.proofs.ListedLeases.{terms, listed}
use Rattle.stm_events.specs.declared.line.ReportLine.{ReportLine}
use Rattle.stm_check.specs.StoreLines.{lease_line, lease_lines}

-- once no lease is left, the lines are the whole
pub no_lease : (lines total : List ReportLine) (left : List (ℕ × LiveLease)) → left ≡ [] → lines ++ map lease_line (terms left) ≡ total → lines ≡ total
no_lease lines total left none so_far =
    sym (append-nil lines) ∙ ap (λ (es : List (ℕ × LiveLease)). lines ++ map lease_line (terms es)) (sym none) ∙ so_far

pub lines_of_map : (m : BTreeMap ℕ LiveLease) (live : Live) → IsOrdered nat_cmp m → HasLeases m live →
    map lease_line (terms m.entries) ≡ lease_lines live
lines_of_map m live rises has = ap (map lease_line) (listed m live rises has)
