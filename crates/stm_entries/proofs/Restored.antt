-- What the grants of a checkpoint replay to.
use Rattle.std.proofs.Common.{◌≡◌, List, [], ◌∷◌, true, refl}
use Rattle.stm_leases.specs.Live.{Live}
use Rattle.stm_history.specs.History.{History}
use Rattle.stm_txn.specs.declared.restored.KeptLease.{KeptLease}
use Rattle.std.specs.FinMap as finmap
use Rattle.stm_txn.specs.Restored.{term_kept, granted_all, are_granted}
use Rattle.stm_txn.proofs.RestoredLemmas.{first_granted}
use Rattle.stm_entries.specs.Replayed.{Replayed}
use Rattle.stm_entries.specs.Replay.{replay}
use Rattle.stm_entries.specs.Legal.{AreLegal}
use Rattle.stm_entries.specs.Restored.{grants_of}

-- the leases, over the same history
pub grants_replay : (leases : List KeptLease) (h : History) (live : Live) → (let r : Replayed = record { history = h; live = live } in
    replay (grants_of leases) r) ≡ (let r : Replayed = record { history = h; live = granted_all leases live } in r)
grants_replay [] h live = refl
grants_replay (lease ∷ leases) h live = grants_replay leases h (finmap.insert live lease.id (term_kept lease))

-- each is legal where it is not refused
pub grants_legal : (leases : List KeptLease) (h : History) (live : Live) → are_granted leases live ≡ true
    → AreLegal (grants_of leases) (let r : Replayed = record { history = h; live = live } in r)
grants_legal [] h live granted = tt
grants_legal (lease ∷ leases) h live granted =
    let first = first_granted lease leases live granted in (first.0, grants_legal leases h (finmap.insert live lease.id (term_kept lease)) first.1)
