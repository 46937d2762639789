-- What contracts see of a store.
use Rattle.std.specs.Prelude.{ℕ, List, Option, refl}
use Rattle.std.specs.Coded.{Coded, code_by, coded×, coded_ℕ}
use Rattle.std.specs.FinMap as finmap
use Rattle.stm_history.specs.declared.key_state.KeyState.{KeyState}
use Rattle.stm_keys.specs.Keys.{Contents}
use Rattle.stm_leases.specs.Live.{Live}
use Rattle.stm_leases.specs.Leases.{term_code}
use Rattle.stm_watch.specs.Watching.{Watching}
use Rattle.stm_txn.specs.Standing.{Standing}

-- What a store is, and beside it the list of its present keys in the order in which `Keys::at` gives them, of which no call's
-- meaning speaks, and the revision that it had before any change (`Keys::opening`), which every call keeps.
pub record StoreView : Type 0 where
  pub standing : Standing
  pub present : List (List ℕ × KeyState)
  pub opened : ℕ

-- a store is stored as its parts
abbrev pub store_code : Coded Contents → Coded (List (Option Watching)) → Coded StoreView
store_code contents watchers =
    code_by (Contents × (Live × (ℕ × (ℕ × List (Option Watching)))))
    (coded× contents (coded× (finmap.code coded_ℕ term_code) (coded× coded_ℕ (coded× coded_ℕ watchers))))
    (λ s. (
      record { history = s.standing.history; present = s.present; opened = s.opened; floor = s.standing.floor },
      (s.standing.live, (s.standing.limit, (s.standing.moment, s.standing.watchers))),
    ))
    (λ p. record {
      standing = record { history = p.0.history; floor = p.0.floor; limit = p.1.1.0; live = p.1.0; moment = p.1.1.1.0; watchers = p.1.1.1.1 };
      present = p.0.present;
      opened = p.0.opened;
    })
    (λ _. refl)
