-- The key at a revision on worked examples, computed by its definition.
use Rattle.std.proofs.Common.{◌≡◌, refl, ℕ, List, [], ◌∷◌}
use Rattle.std.specs.Prelude.{codes, Option, Some, None}
use Rattle.stm_history.specs.declared.change.Change.TheVariants.{Put, Del}
use Rattle.stm_history.specs.declared.key_state.KeyState.{KeyState}
use Rattle.stm_history.specs.Opening.{opening_at}
use Rattle.stm_history.specs.History.{History, now, key_at, key_now, add_revision}
use Rattle.stm_history.specs.Cut.{cut}

-- value, create revision, modification revision, version and lease of a present key
abbrev present : List ℕ → ℕ → ℕ → ℕ → ℕ → Option KeyState
present value create_rev mod_rev version lease =
    Some record { value = value; create_rev = create_rev; mod_rev = mod_rev; version = version; lease = lease }

-- ---- a store that opens at 1: "a" is put, put, deleted and put

abbrev put_put_delete_put : History
put_put_delete_put = record {
  opening = opening_at 1;
  revisions = (Put (codes "a") (codes "z") 0 ∷ []) ∷ (Del (codes "a") ∷ []) ∷ (Put (codes "a") (codes "y") 7 ∷ []) ∷ (Put (codes "a") (codes "x") 0 ∷ []) ∷ [];
}

counter : now put_put_delete_put ≡ 5
counter = refl

before_the_first_put : key_at put_put_delete_put (codes "a") 1 ≡ None
before_the_first_put = refl

at_the_first_put : key_at put_put_delete_put (codes "a") 2 ≡ present (codes "x") 2 2 1 0
at_the_first_put = refl

at_the_second_put : key_at put_put_delete_put (codes "a") 3 ≡ present (codes "y") 2 3 2 7
at_the_second_put = refl

at_the_deletion : key_at put_put_delete_put (codes "a") 4 ≡ None
at_the_deletion = refl

-- the version begins again, and the create revision is the last put's
at_the_last_put : key_at put_put_delete_put (codes "a") 5 ≡ present (codes "z") 5 5 1 0
at_the_last_put = refl

at_a_revision_to_come : key_at put_put_delete_put (codes "a") 6 ≡ present (codes "z") 5 5 1 0
at_a_revision_to_come = refl

another_key : key_now put_put_delete_put (codes "b") ≡ None
another_key = refl

-- ---- a store that opens at 41: two keys in one revision, and then one of them deleted and the other put

abbrev two_keys : History
two_keys = record {
  opening = opening_at 41;
  revisions = (Del (codes "a") ∷ Put (codes "b") (codes "2") 0 ∷ []) ∷ (Put (codes "a") (codes "1") 3 ∷ Put (codes "b") (codes "1") 0 ∷ []) ∷ [];
}

at_the_opening : key_at two_keys (codes "b") 41 ≡ None
at_the_opening = refl

first_of_two : key_at two_keys (codes "a") 42 ≡ present (codes "1") 42 42 1 3
first_of_two = refl

second_of_two : key_at two_keys (codes "b") 42 ≡ present (codes "1") 42 42 1 0
second_of_two = refl

first_deleted : key_at two_keys (codes "a") 43 ≡ None
first_deleted = refl

second_put_again : key_at two_keys (codes "b") 43 ≡ present (codes "2") 42 43 2 0
second_put_again = refl

-- ---- the oldest revisions are dropped: "a" is put twice and "b" once, and the store is compacted at 4

abbrev two_puts_and_one : History
two_puts_and_one = record {
  opening = opening_at 1;
  revisions = (Put (codes "b") (codes "1") 0 ∷ []) ∷ (Put (codes "a") (codes "2") 0 ∷ []) ∷ (Put (codes "a") (codes "1") 0 ∷ []) ∷ [];
}

-- the revision of the compaction stays, and what the keys were before it
compacted_at_four : cut 3 two_puts_and_one ≡ record {
  opening = record {
    number = 3;
    states = (codes "a", record { value = codes "2"; create_rev = 2; mod_rev = 3; version = 2; lease = 0 }) ∷ [];
  };
  revisions = (Put (codes "b") (codes "1") 0 ∷ []) ∷ [];
}
compacted_at_four = refl

a_key_whose_last_put_was_dropped : key_at (cut 3 two_puts_and_one) (codes "a") 4 ≡ present (codes "2") 2 3 2 0
a_key_whose_last_put_was_dropped = refl

a_key_of_the_last_revision : key_at (cut 3 two_puts_and_one) (codes "b") 4 ≡ present (codes "1") 4 4 1 0
a_key_of_the_last_revision = refl

the_counter_stays : now (cut 3 two_puts_and_one) ≡ 4
the_counter_stays = refl

-- the next put counts on, and after a deletion it begins anew
put_again : key_now (add_revision (cut 3 two_puts_and_one) (Put (codes "a") (codes "3") 9 ∷ [])) (codes "a") ≡ present (codes "3") 2 5 3 9
put_again = refl

deleted_and_put : key_now (add_revision (add_revision (cut 3 two_puts_and_one) (Del (codes "a") ∷ [])) (Put (codes "a") (codes "3") 0 ∷ [])) (codes "a")
    ≡ present (codes "3") 6 6 1 0
deleted_and_put = refl

-- dropped to the end there is no revision left, and every key is as it was
dropped_to_the_end : cut 4 two_puts_and_one ≡ record {
  opening = record {
    number = 4;
    states =
        (codes "a", record { value = codes "2"; create_rev = 2; mod_rev = 3; version = 2; lease = 0 })
        ∷ (codes "b", record { value = codes "1"; create_rev = 4; mod_rev = 4; version = 1; lease = 0 })
        ∷ [];
  };
  revisions = [];
}
dropped_to_the_end = refl

dropped_twice : cut 4 (cut 3 two_puts_and_one) ≡ cut 4 two_puts_and_one
dropped_twice = refl

dropped_before : cut 3 (cut 4 two_puts_and_one) ≡ cut 4 two_puts_and_one
dropped_before = refl

nothing_dropped : cut 1 two_puts_and_one ≡ two_puts_and_one
nothing_dropped = refl

-- a deletion that was dropped leaves the key absent
deletion_dropped : key_at (cut 4 put_put_delete_put) (codes "a") 4 ≡ None
deletion_dropped = refl

put_after_a_dropped_deletion : key_at (cut 4 put_put_delete_put) (codes "a") 5 ≡ present (codes "z") 5 5 1 0
put_after_a_dropped_deletion = refl

-- a state that no history up to its opening can leave is that of no key
too_late : key_now (record {
  opening = record { number = 3; states = (codes "a", record { value = codes "x"; create_rev = 4; mod_rev = 4; version = 1; lease = 0 }) ∷ [] };
  revisions = [];
}) (codes "a") ≡ None
too_late = refl
