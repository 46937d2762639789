-- When a compare holds.
--
-- etcd's API reference, "Transaction", `Compare`: a target, an order, and the stored side on the left; all compares of a
-- transaction are joined by "and". As its server does, an absent key has 0 in the four number targets and fails every
-- compare of its value, `!=` included, and texts compare by bytes. That an answer names the first compare that failed,
-- with its key's modification revision, is this store's own choice.
use Rattle.std.specs.Prelude.{ℕ, ◌+◌, Bool, false, if◌then◌else◌, List, [], ◌∷◌, Option, Some, None}
use Rattle.std.specs.Option.{option_map_or}
use Rattle.std.specs.Ordering.{nat_cmp, is_eq, is_ne, is_gt, is_lt}
use Rattle.std.specs.Cmp.Lexicographic.{slice_cmp}
use Rattle.std.specs.declared.cmp.Ordering.{Ordering}
use Rattle.stm_history.specs.declared.key_state.KeyState.{KeyState}
use Rattle.stm_history.specs.History.{mod_of}
use Rattle.stm_outcome.specs.declared.txn.Compare.{Compare}
use Rattle.stm_outcome.specs.declared.txn.Target.{Target}
use Rattle.stm_outcome.specs.declared.txn.Target.TheVariants.{Version, Create, Mod, Lease, Value}
use Rattle.stm_outcome.specs.declared.txn.Order.{Order}
use Rattle.stm_outcome.specs.declared.txn.Order.TheVariants.{Equal, NotEqual, Greater, Less}
use Rattle.stm_outcome.specs.declared.answer.FailedCompare.{FailedCompare}

-- whether two sides that compare so are in the order that is asked for
abbrev pub is_asked : Order → Ordering → Bool
is_asked Equal sides = is_eq sides
is_asked NotEqual sides = is_ne sides
is_asked Greater sides = is_gt sides
is_asked Less sides = is_lt sides

-- how the stored side compares with the compare's side: an absent key has 0 for each number, and nothing for its value
abbrev pub sides : Target → Option KeyState → Option Ordering
sides (Version n) s = Some (nat_cmp (option_map_or (λ k. k.version) s 0) n)
sides (Create n) s = Some (nat_cmp (option_map_or (λ k. k.create_rev) s 0) n)
sides (Mod n) s = Some (nat_cmp (option_map_or (λ k. k.mod_rev) s 0) n)
sides (Lease n) s = Some (nat_cmp (option_map_or (λ k. k.lease) s 0) n)
sides (Value text) s = value_sides s
  where
    value_sides : Option KeyState → Option Ordering
    value_sides None = None
    value_sides (Some k) = Some (slice_cmp nat_cmp k.value text)

abbrev pub sides_hold : Order → Option Ordering → Bool
sides_hold order None = false
sides_hold order (Some standing) = is_asked order standing

-- whether a compare holds of what its key is
abbrev pub holds : Compare → Option KeyState → Bool
holds c s = sides_hold c.order (sides c.target s)

-- the first compare that does not hold on a state, from a place of the list on
abbrev pub first_failed : (List ℕ → Option KeyState) → ℕ → List Compare → Option FailedCompare
first_failed state index [] = None
first_failed state index (c ∷ cs) =
    if holds c (state c.key) then first_failed state (index + 1) cs else Some record { index = index; mod_rev = mod_of (state c.key) }
