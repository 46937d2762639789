-- What the rules say of a store that is compacted, computed.
use Rattle.std.proofs.Common.{◌≡◌, ℕ, List, [], ◌∷◌, Option, Some, None, Ok, Err, true, false, refl}
use Rattle.std.specs.Prelude.{codes}
use Rattle.std.specs.FinMap as finmap
use Rattle.stm_history.specs.declared.change.Change.TheVariants.{Put as PutChange}
use Rattle.stm_history.specs.declared.key_state.KeyState.{KeyState}
use Rattle.stm_history.specs.Opening.{opening_at}
use Rattle.stm_history.specs.History.{opened_at}
use Rattle.stm_watch.specs.declared.watched.Watched.TheVariants.{Key}
use Rattle.stm_watch.specs.Watching.{Watching}
use Rattle.stm_watch.specs.Pending.{watching_from}
use Rattle.stm_outcome.specs.declared.txn.Txn.{Txn}
use Rattle.stm_outcome.specs.declared.txn.Op.TheVariants.{Get}
use Rattle.stm_outcome.specs.declared.answer.OpAnswer.TheVariants.{Get as GetAnswer}
use Rattle.stm_outcome.specs.declared.refusal.Refusal.TheVariants.{FutureRevision, Compacted, NoWatcher}
use Rattle.stm_txn.specs.Standing.{Standing, transacted, with_watchers, polled, poll_refused, raised, compacted}

-- ---- a is put at 2 and 3, b at 4, and the store is compacted at 4

abbrev three_puts : Standing
three_puts = record {
  history = record {
    opening = opening_at 1;
    revisions = (PutChange (codes "b") (codes "1") 0 ∷ [])
        ∷ (PutChange (codes "a") (codes "2") 0 ∷ [])
        ∷ (PutChange (codes "a") (codes "1") 0 ∷ [])
        ∷ [];
  };
  floor = 0;
  limit = 128;
  live = finmap.empty;
  moment = 0;
  watchers = [];
}

abbrev second_put : KeyState
second_put = record { value = codes "2"; create_rev = 2; mod_rev = 3; version = 2; lease = 0 }

-- what a was at 3 stays, and the floor's own revision
abbrev left : Standing
left = record {
  history = record {
    opening = record { number = 3; states = (codes "a", second_put) ∷ [] };
    revisions = (PutChange (codes "b") (codes "1") 0 ∷ []) ∷ [];
  };
  floor = 4;
  limit = 128;
  live = finmap.empty;
  moment = 0;
  watchers = [];
}

at_four : compacted three_puts 4 ≡ Ok (record { answer = tt; next = left })
at_four = refl

raised_to_four : raised three_puts 4 ≡ Ok (record { answer = tt; next = record three_puts { floor = 4 } })
raised_to_four = refl

again : compacted left 4 ≡ Err Compacted
again = refl

above_the_counter : compacted left 5 ≡ Err FutureRevision
above_the_counter = refl

abbrev get_a : ℕ → Txn
get_a rev = record { compares = []; success = Get (codes "a") rev ∷ []; failure = [] }

below_the_floor : transacted left (get_a 3) ≡ Err Compacted
below_the_floor = refl

at_the_floor : transacted left (get_a 4) ≡ Ok (record {
  answer = record {
    succeeded = true;
    revision = 4;
    answers = GetAnswer (record { key = codes "a"; kv = Some second_put; of_rev = 4; revision = 4 }) ∷ [];
    failed = None;
  };
  next = left;
})
at_the_floor = refl

-- ---- a watcher of a that was notified of nothing, and one of b that was notified of everything

abbrev of_a_and_b : List (Option Watching)
of_a_and_b = Some (watching_from (opened_at 1) 0 (Key (codes "a")) 0) ∷ Some (watching_from three_puts.history 0 (Key (codes "b")) 0) ∷ []

abbrev one_lost : List (Option Watching)
one_lost = Some (record { watched = Key (codes "a"); seen = 1; lost = true }) ∷ Some (record { watched = Key (codes "b"); seen = 4; lost = false }) ∷ []

one_is_lost : compacted (with_watchers three_puts of_a_and_b) 4 ≡ Ok (record { answer = tt; next = with_watchers left one_lost })
one_is_lost = refl

its_poll : polled (with_watchers left one_lost) 1 9 ≡ Err Compacted
its_poll = refl

cancelled_by_it : (poll_refused (with_watchers left one_lost) 1).watchers ≡ None ∷ Some (record { watched = Key (codes "b"); seen = 4; lost = false }) ∷ []
cancelled_by_it = refl

its_next_poll : polled (poll_refused (with_watchers left one_lost) 1) 1 9 ≡ Err NoWatcher
its_next_poll = refl
