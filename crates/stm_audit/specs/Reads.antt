-- What a read of a trace says of its key, and what became of that key since.
--
-- etcd's API reference, "KeyValue": a key's modification revision is that of its last put, so a key is as it was where that is the same.
use Rattle.std.specs.Prelude.{ℕ, Bool, true, false, ◌&&◌, not, nat_eq, nat_le, nat_lt, bytes_eq, if◌then◌else◌, ◌-◌, List, Option, Some, None}
use Rattle.std.specs.List.{list_any}
use Rattle.stm_history.specs.declared.key_state.KeyState.{KeyState}
use Rattle.stm_history.specs.History.{History, now, key_at, key_now, mod_of, key_of}
use Rattle.stm_history.specs.declared.change.Change.{Change}
use Rattle.stm_keys.specs.NextChange.{next_change}
use Rattle.stm_events.specs.declared.reply.CommittedRead.{CommittedRead}

-- a value is the one that a key had, and none where the key was absent
abbrev pub is_value : Option (List ℕ) → Option KeyState → Bool
is_value None None = true
is_value None (Some s) = false
is_value (Some v) None = false
is_value (Some v) (Some s) = bytes_eq v s.value

-- a key that was absent at a later revision, or was put since this one, may have been otherwise here
abbrev pub is_lost : ℕ → Option KeyState → Bool
is_lost revision None = true
is_lost revision (Some s) = nat_lt revision s.mod_rev

-- a key that is absent has no value and the modification revision 0, and a key that is present has neither
abbrev pub is_possible : Option (List ℕ) → ℕ → Bool
is_possible None mod_rev = nat_eq mod_rev 0
is_possible (Some v) mod_rev = nat_lt 0 mod_rev

-- The read says what its key was at the revision that it is of, which the store had reached. What a key was is known from a revision on, and before that where
-- it has not changed since; elsewhere a read may say anything that a key can be, but that it was put later.
abbrev pub is_so : History → ℕ → CommittedRead → Bool
is_so h known a =
    if nat_lt (now h) a.of_rev then false
    else (if nat_lt a.of_rev known && is_lost a.of_rev (key_at h a.key a.of_rev) then is_possible a.value a.mod_rev && nat_le a.mod_rev a.of_rev
    else (is_value a.value (key_at h a.key a.of_rev) && nat_eq a.mod_rev (mod_of (key_at h a.key a.of_rev))))

abbrev pub is_untrue : History → ℕ → CommittedRead → Bool
is_untrue h known a = not (is_so h known a)

-- its key is not as it was read
abbrev pub is_stale : History → CommittedRead → Bool
is_stale h a = not (nat_eq a.mod_rev (mod_of (key_now h a.key)))

-- the first revision after the read that is known to have changed its key: a change before the opening is not
abbrev pub changed_at : History → CommittedRead → Option ℕ
changed_at h a = next_change h a.key a.of_rev

abbrev pub is_at_most : ℕ → Option ℕ → Bool
is_at_most limit None = false
is_at_most limit (Some n) = nat_le n limit

-- the read shows a change of its key that was made at this revision or later
abbrev pub shows_from : History → ℕ → CommittedRead → Bool
shows_from h revision a = is_at_most a.of_rev (next_change h a.key (revision - 1))

-- one of these writes is of this key
abbrev pub is_among : List Change → List ℕ → Bool
is_among writes key = list_any (λ w. bytes_eq (key_of w) key) writes
