-- What an event leaves of the store is what its entries replay to.
use Rattle.std.proofs.Common.{◌≡◌, ◌≤◌, List, [], refl, arith}
use Rattle.std.proofs.lemmas.Bool.Decides.{nat_tests}
use Rattle.stm_txn.specs.Standing.{Standing, HasKept}
use Rattle.stm_entries.specs.declared.entry.Entry.{Entry}
use Rattle.stm_entries.specs.Replayed.{without_moment}
use Rattle.stm_entries.specs.Replay.{replay}
use Rattle.stm_entries.specs.Legal.{AreLegal}
use Rattle.stm_events.proofs.CallEnters.{Enters, nothing_enters}
use Rattle.stm_world.proofs.Truth.{Keeps, keeps_same}

-- What was true stays true; and so does it that nothing which is pending for a watcher that is not lost is below the floor, which goes down
-- nowhere. The limit of operations stays.
pub record GoesOn (before after : Standing) : Type 0 where
  pub keeps : Keeps before.history after.history
  pub kept : HasKept before → HasKept after
  pub floor : before.floor ≤ after.floor
  pub limit : after.limit ≡ before.limit

-- Beside that history and live leases are those that the entries lead to, each legal at its point.
pub record EntriesFollow (before after : Standing) (more : List Entry) : Type 0 where
  pub replays : replay more (without_moment before) ≡ without_moment after
  pub legal : AreLegal more (without_moment before)
  pub keeps : Keeps before.history after.history
  pub kept : HasKept before → HasKept after
  pub floor : before.floor ≤ after.floor
  pub limit : after.limit ≡ before.limit

pub floor_stays : (s : Standing) → s.floor ≤ s.floor
floor_stays s = omega arith

pub nothing_goes_on : (s : Standing) → GoesOn s s
nothing_goes_on s = record { keeps = keeps_same s.history; kept = λ k. k; floor = floor_stays s; limit = refl }

pub followed : (before after : Standing) (more : List Entry) → Enters before after more → GoesOn before after → EntriesFollow before after more
followed before after more enters goes = grind (arith, nat_tests)

pub nothing_follows : (s : Standing) → EntriesFollow s s []
nothing_follows s = followed s s [] (nothing_enters s) (nothing_goes_on s)
