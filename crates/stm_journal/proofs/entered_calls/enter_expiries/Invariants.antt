use Rattle.std.proofs.Common.{◌≡◌, ◌+◌, ◌≤◌, ◌++◌, length, take, drop, vec_len, vec_capacity}
use Rattle.stm_entries.specs.Entered.{expiries}
use Rattle.stm_journal.proofs.entered_calls.enter_expiries.Given as goal

-- the leases so far are entered, and there is room for the rest
abbrev pub invariant-loop-lease : goal.invariant-loop-lease
invariant-loop-lease l = record {
  entered : l.entries.items ≡ l.fn.entries.items ++ expiries (take l.lease-index l.expired);
  room : vec_len l.entries + length (drop l.lease-index l.expired) ≤ vec_capacity l.entries;
}
