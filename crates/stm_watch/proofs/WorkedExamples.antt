-- What the rules of watchers say of some histories, computed.
use Rattle.std.proofs.Common.{◌≡◌, ℕ, List, [], ◌∷◌, ◌++◌, Option, Some, None, Ok, Err, true, false, refl}
use Rattle.std.specs.Prelude.{codes}
use Rattle.stm_history.specs.declared.change.Change.TheVariants.{Put, Del}
use Rattle.stm_history.specs.declared.key_state.KeyState.{KeyState}
use Rattle.stm_history.specs.Opening.{opening_at}
use Rattle.stm_history.specs.History.{History, opened_at}
use Rattle.stm_history.specs.Cut.{cut}
use Rattle.stm_keys.specs.declared.event.Event.TheVariants.{Put as PutEvent, Delete as DeleteEvent}
use Rattle.stm_watch.specs.Watching.{Watching}
use Rattle.stm_watch.specs.declared.watched.Watched.TheVariants.{Key, Range}
use Rattle.stm_watch.specs.Keys.{is_watched}
use Rattle.stm_watch.specs.Pending.{watching_from, is_pending, batch_of, after_poll}
use Rattle.stm_watch.specs.Calls.{watch, poll, after_refused, compacted}
use Rattle.stm_watch.specs.declared.refusal.PollRefusal.TheVariants.{NoWatcher, Compacted}

-- a state with the value "1", put for the first time
abbrev made_at : ℕ → KeyState
made_at number = record { value = codes "1"; create_rev = number; mod_rev = number; version = 1; lease = 0 }

-- ---- a key is put at 2 and deleted at 3, and watched from 2 on

abbrev put_and_deleted : History
put_and_deleted = record { opening = opening_at 1; revisions = (Del (codes "a") ∷ []) ∷ (Put (codes "a") (codes "1") 0 ∷ []) ∷ [] }

abbrev from_two : Watching
from_two = watching_from put_and_deleted 0 (Key (codes "a")) 2

ready_at_once : is_pending put_and_deleted from_two ≡ true
ready_at_once = refl

first_poll : batch_of 1 put_and_deleted from_two ≡ record { events = PutEvent (codes "a") (made_at 2) ∷ []; upto = 2 }
first_poll = refl

second_poll : batch_of 1 put_and_deleted (after_poll 1 put_and_deleted from_two) ≡ record { events = DeleteEvent (codes "a") 3 ∷ []; upto = 3 }
second_poll = refl

nothing_left : is_pending put_and_deleted (after_poll 1 put_and_deleted (after_poll 1 put_and_deleted from_two)) ≡ false
nothing_left = refl

-- a poll of no revision reports nothing new while something is pending
no_revision : batch_of 0 put_and_deleted from_two ≡ record { events = []; upto = 1 }
no_revision = refl

-- a watcher of what comes next has seen the counter; one of a revision to come waits for it
from_now : batch_of 5 put_and_deleted (watching_from put_and_deleted 0 (Key (codes "a")) 0) ≡ record { events = []; upto = 3 }
from_now = refl

from_nine : batch_of 5 put_and_deleted (watching_from put_and_deleted 0 (Key (codes "a")) 9) ≡ record { events = []; upto = 8 }
from_nine = refl

-- ---- one revision puts c, a and b, and another c

abbrev three_and_one : History
three_and_one = record {
  opening = opening_at 1;
  revisions = (Put (codes "c") (codes "1") 0 ∷ [])
      ∷ (Put (codes "c") (codes "1") 0 ∷ Put (codes "a") (codes "1") 0 ∷ Put (codes "b") (codes "1") 0 ∷ [])
      ∷ [];
}

abbrev below_c : Watching
below_c = watching_from three_and_one 0 (Range (codes "a") (codes "c")) 1

-- a revision is reported whole, in the order of operations, and all is reported then
whole_revision : batch_of 1 three_and_one below_c
    ≡ record { events = PutEvent (codes "a") (made_at 2) ∷ PutEvent (codes "b") (made_at 2) ∷ []; upto = 3 }
whole_revision = refl

-- ---- ranges

end_is_out : is_watched (Range (codes "a") (codes "c")) (codes "c") ≡ false
end_is_out = refl

first_is_in : is_watched (Range (codes "a") (codes "c")) (codes "a") ≡ true
first_is_in = refl

longer_is_in : is_watched (Range (codes "a") (codes "c")) (codes "bcd") ≡ true
longer_is_in = refl

no_key_is_in : is_watched (Range (codes "b") (codes "b")) (codes "b") ≡ false
no_key_is_in = refl

-- ---- a and c are watched, a is put at 2 and b at 3, and the store is compacted at 3

abbrev two_puts : History
two_puts = record { opening = opening_at 1; revisions = (Put (codes "b") (codes "1") 0 ∷ []) ∷ (Put (codes "a") (codes "1") 0 ∷ []) ∷ [] }

abbrev of_a_and_c : List (Option Watching)
of_a_and_c = Some (watching_from (opened_at 1) 0 (Key (codes "a")) 0) ∷ Some (watching_from (opened_at 1) 0 (Key (codes "c")) 0) ∷ []

-- the history that is left
abbrev left : History
left = cut 2 two_puts

-- the watcher of a, for which revision 2 is pending, is lost, and the one of c loses nothing
abbrev one_lost : List (Option Watching)
one_lost = Some (record { watched = Key (codes "a"); seen = 1; lost = true }) ∷ Some (record { watched = Key (codes "c"); seen = 1; lost = false }) ∷ []

one_is_lost : compacted two_puts 3 of_a_and_c ≡ one_lost
one_is_lost = refl

-- at 2 none would be: the events of the floor's own revision stay
none_is_lost : compacted two_puts 2 of_a_and_c ≡ of_a_and_c
none_is_lost = refl

-- its poll says so and cancels it, and the next one finds none
lost_poll : poll left 1 9 one_lost ≡ Err Compacted
lost_poll = refl

cancelled_by_it : after_refused 1 one_lost ≡ None ∷ Some (record { watched = Key (codes "c"); seen = 1; lost = false }) ∷ []
cancelled_by_it = refl

poll_again : poll left 1 9 (after_refused 1 one_lost) ≡ Err NoWatcher
poll_again = refl

other_poll : poll left 2 9 one_lost ≡ Ok (record {
  answer = record { events = []; upto = 3 };
  next = Some (record { watched = Key (codes "a"); seen = 1; lost = true }) ∷ Some (record { watched = Key (codes "c"); seen = 3; lost = false }) ∷ [];
})
other_poll = refl

-- a watcher from below the floor is lost from its start, and one from the floor on sees all from there on
from_below : watch left 3 (Key (codes "a")) 2 one_lost
    ≡ Ok (record { answer = 3; next = one_lost ++ Some (record { watched = Key (codes "a"); seen = 1; lost = true }) ∷ [] })
from_below = refl

from_the_floor : batch_of 9 left (watching_from left 3 (Key (codes "b")) 3) ≡ record { events = PutEvent (codes "b") (made_at 3) ∷ []; upto = 3 }
from_the_floor = refl
