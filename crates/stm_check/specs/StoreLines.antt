-- The lines of what a store holds at the end.
--
-- etcd's API reference, "Range" and "Lease".
use Rattle.std.specs.Prelude.{ℕ, List, [], ◌∷◌, ◌++◌, map, Option, Some, None}
use Rattle.std.specs.FinMap as finmap
use Rattle.stm_history.specs.declared.key_state.KeyState.{KeyState}
use Rattle.stm_history.specs.History.{History, now, key_now}
use Rattle.stm_leases.specs.LeaseLog.{Term}
use Rattle.stm_leases.specs.Live.{Live}
use Rattle.stm_txn.specs.LeaseKeys.{keys_named}
use Rattle.stm_txn.specs.Standing.{Standing}
use Rattle.stm_events.specs.declared.line.ReportLine.{ReportLine}
use Rattle.stm_events.specs.declared.line.ReportLine.TheVariants.{Key, Lease, End}
use Rattle.stm_check.specs.Point.{Point}

abbrev pub key_lines_of : List ℕ → Option KeyState → List ReportLine
key_lines_of key None = []
key_lines_of key (Some state) = Key key state ∷ []

-- a line for each of these keys that is present
abbrev pub key_lines : History → List (List ℕ) → List ReportLine
key_lines h [] = []
key_lines h (key ∷ keys) = key_lines_of key (key_now h key) ++ key_lines h keys

abbrev pub lease_line : ℕ × Term → ReportLine
lease_line lease = Lease lease.0 (lease.1).ttl (lease.1).renewed

-- a line for each live lease, ascending by id
abbrev pub lease_lines : Live → List ReportLine
lease_lines live = map lease_line (finmap.entries live)

-- The lines of the end: the keys that are present, ascending by bytes, the live leases, and the end line, with the counter and the
-- number of entries.
abbrev pub end_lines : Standing → ℕ → List ReportLine
end_lines s entries =
    key_lines s.history (keys_named s.history) ++ lease_lines s.live ++ End (now s.history) entries ∷ []

abbrev pub final_lines : Point → List ReportLine
final_lines p = end_lines p.standing p.entries
