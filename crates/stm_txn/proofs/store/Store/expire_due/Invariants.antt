use Rattle.std.proofs.Common.{◌≡◌, List}
use Rattle.std.specs.FinMap as finmap
use Rattle.stm_leases.specs.LeaseLog.{LogItem}
use Rattle.stm_leases.specs.Leases.{StandsFor}
use Rattle.stm_outcome.specs.Numbers.{AllExpiredFit}
use Rattle.stm_txn.specs.Standing.{after, expire_all, with_expiries, HasCome}
use Rattle.stm_txn.proofs.store.Store.expire_due.Given as goal

-- what expired so far, followed by the rest, is the whole
abbrev pub invariant-loop-id : goal.invariant-loop-id
invariant-loop-id l = record {
  so_far : expire_all l.fn.self.standing ≡ after l.expired.items (expire_all l.self.standing);
  come : HasCome l.fn.self.standing l.expired.items l.self.standing;
  fit : AllExpiredFit l.expired.items;
  opened : l.self.opened ≡ l.fn.self.opened;
  logged : (log : List LogItem) → StandsFor l.fn.self.standing.live log → StandsFor l.self.standing.live (with_expiries l.expired.items log);
}

abbrev pub decreases-loop-id : goal.decreases-loop-id
decreases-loop-id l = finmap.len l.self.standing.live
