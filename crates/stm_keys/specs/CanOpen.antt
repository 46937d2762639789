-- Which states a store can open with, that has dropped its revisions.
use Rattle.std.specs.Prelude.{ℕ, Bool, true, ◌&&◌, List, [], ◌∷◌}
use Rattle.std.specs.Ordering.{nat_cmp, is_lt}
use Rattle.std.specs.Cmp.Lexicographic.{slice_cmp}
use Rattle.stm_history.specs.Opening.{States, is_reached}

-- a key stands before the first of these, by bytes
abbrev pub stands_before : List ℕ → States → Bool
stands_before key [] = true
stands_before key (e ∷ states) = is_lt (slice_cmp nat_cmp key e.0)

-- A store can open with these states at a number: their keys ascend by bytes, and each state is one that a history up to the number can have left.
abbrev pub can_open : ℕ → States → Bool
can_open number [] = true
can_open number (e ∷ states) = is_reached number e.1 && (stands_before e.0 states && can_open number states)
